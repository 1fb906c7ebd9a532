pub mod Leaving
pub mod Mapped
pub mod FiguresCalls
pub mod RangeCalls
pub mod LentTexts
pub mod LentSheets
pub mod Consequences
