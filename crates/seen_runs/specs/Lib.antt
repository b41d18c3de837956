pub mod Keeping
pub mod Passing
pub mod Resting
pub mod Tasks
