pub mod NumberLemmas
pub mod PassLemmas
pub mod EntryLemmas
pub mod EverythingLemmas
pub mod AskedLemmas
