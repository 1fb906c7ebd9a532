pub mod Series
pub mod Lead
pub mod Settled
pub mod Body
