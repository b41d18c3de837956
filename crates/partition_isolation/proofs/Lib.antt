pub mod ByTicks
pub mod Runs
