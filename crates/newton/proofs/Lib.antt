pub mod Binomial
pub mod Sum
