pub mod Closing
pub mod Plan
pub mod Known
pub mod Answers
pub mod Reasons
pub mod Reports
