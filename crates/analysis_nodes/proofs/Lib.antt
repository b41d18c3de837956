pub mod HeldLemmas
pub mod LinkLemmas
pub mod ClosedLemmas
pub mod OutcomeLemmas
pub mod SettableLemmas
