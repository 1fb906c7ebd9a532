pub mod StraightLaws
pub mod ChoiceLaws
pub mod LoopLaws
pub mod RankedEnds
