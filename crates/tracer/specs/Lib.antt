pub mod Shown
pub mod Writing
pub mod RunFaults
pub mod WholeRuns
pub mod UpperRuns
pub mod Ticks
