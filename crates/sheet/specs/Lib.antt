pub mod Refusals
pub mod Sheets
pub mod Nestings
pub mod Answers
