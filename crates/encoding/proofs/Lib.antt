pub mod Fields
pub mod Patterns
pub mod Appending
pub mod Digits
pub mod Made
