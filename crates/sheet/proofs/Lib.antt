pub mod Refused
pub mod Heads
pub mod Openings
pub mod OneRecord
pub mod Reading
pub mod SheetRecords
pub mod Decoding
pub mod WrittenBack
