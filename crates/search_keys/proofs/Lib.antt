mod Codes
mod Parts
mod Ready
mod Data
mod Told
mod Windows
mod Runs
mod Equal
pub mod DigitLemmas
pub mod ReadingLemmas
