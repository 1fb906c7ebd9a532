pub mod Bounds
pub mod Open
pub mod Sums
pub mod Frames
pub mod Kept
pub mod Arms
pub mod States
