pub mod Fallible
pub mod HeldLemmas
pub mod SetLemmas
pub mod Exploring
pub mod Losing
pub mod Deciding
pub mod Holding
