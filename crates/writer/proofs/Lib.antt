pub mod Fits
pub mod Bodies
pub mod Blanks
pub mod Given
pub mod LaidRecord
pub mod Laying
pub mod Writes
