pub mod TickTexts
pub mod NumberLemmas
pub mod EachLemmas
pub mod IdleLemmas
