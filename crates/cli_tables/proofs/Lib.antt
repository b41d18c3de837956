pub mod PromiseLemmas
pub mod KeptLemmas
pub mod TextLemmas
