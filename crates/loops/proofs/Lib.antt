pub mod Words
pub mod Choices
pub mod Enclosings
pub mod Facts
pub mod Sizes
pub mod Holding
pub mod LoopsRead
pub mod AtRecord
pub mod Surveying
pub mod Pushes
mod Skips
