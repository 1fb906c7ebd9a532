pub mod KeptLaws
pub mod Innermost
pub mod ArmLaws
