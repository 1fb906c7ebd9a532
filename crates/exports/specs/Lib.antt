pub mod Demand
pub mod Returned
