pub mod Stretches
pub mod Moments
pub mod Tiling
pub mod Rows
pub mod Marks
pub mod RowSteps
