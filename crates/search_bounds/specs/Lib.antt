pub mod Held
pub mod Exploring
pub mod Invariant
pub mod Above
