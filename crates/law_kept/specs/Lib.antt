pub mod Kept
pub mod Moves
pub mod KeptService
pub mod KeptTick
pub mod Seen
pub mod Standing
pub mod Quiet
