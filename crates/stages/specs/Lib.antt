pub mod Next
pub mod Represent
pub mod Laws
