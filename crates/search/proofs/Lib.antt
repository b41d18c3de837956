pub mod AgendaLemmas
pub mod NumberLemmas
pub mod AdmitLemmas
pub mod VisitLemmas
pub mod LevelLemmas
pub mod SearchLemmas
pub mod SubsetLemmas
