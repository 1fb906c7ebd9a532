pub mod Integer
pub mod Sum
pub mod Degree
pub mod Newton
pub mod Residue
pub mod Ranking
