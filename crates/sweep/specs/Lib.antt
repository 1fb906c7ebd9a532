pub mod Values
pub mod Overs
pub mod Filled
pub mod Ranges
pub mod Tests
