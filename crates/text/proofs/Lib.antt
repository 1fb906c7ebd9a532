pub mod Inputs
pub mod LoopLines
pub mod PlanLines
pub mod Answering
