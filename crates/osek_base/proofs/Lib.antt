pub mod NumberLemmas
mod NumberingLemmas
mod TableLemmas
pub mod TokenLemmas
pub mod FirstFaultLemmas
pub mod ForemostLemmas
pub mod FrameLemmas
pub mod LevelLemmas
pub mod PlaceLemmas
