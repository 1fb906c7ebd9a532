pub mod Packed
pub mod Forms
