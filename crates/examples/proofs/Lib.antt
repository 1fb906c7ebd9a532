pub mod Readings
pub mod States
pub mod Calls
