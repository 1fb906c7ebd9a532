pub mod Counting
pub mod Padding
pub mod OneValue
pub mod Filling
pub mod Overs
pub mod Places
pub mod Answering
