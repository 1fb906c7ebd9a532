pub mod ParameterRange
pub mod FiguresOver
pub mod Extremes
pub mod RangePromise
pub mod RangeCall
