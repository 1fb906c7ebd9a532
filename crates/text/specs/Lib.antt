pub mod Limits
pub mod Reports
