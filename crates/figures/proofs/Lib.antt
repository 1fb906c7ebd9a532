pub mod Repeats
pub mod Answering
pub mod Demands
pub mod Settled
pub mod KnownAnswers
pub mod Consequences
pub mod Budgets
