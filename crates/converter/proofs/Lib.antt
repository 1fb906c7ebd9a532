pub mod Bodies
pub mod Laying
pub mod Conversions
