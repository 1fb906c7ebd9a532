pub mod Enclosing
pub mod Facts
pub mod Reckoned
pub mod Forms
pub mod Known
