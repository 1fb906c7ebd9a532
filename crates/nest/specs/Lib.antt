pub mod Walk
pub mod Rows
pub mod Roles
pub mod Known
