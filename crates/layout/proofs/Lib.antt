pub mod Storing
pub mod Reading
pub mod EntryCosts
pub mod Roles
