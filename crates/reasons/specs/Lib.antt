pub mod Limits
pub mod View
