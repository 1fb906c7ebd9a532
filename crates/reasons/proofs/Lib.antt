pub mod Fits
pub mod Numbers
pub mod Answers
