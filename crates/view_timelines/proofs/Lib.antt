pub mod RowLemmas
pub mod SignLemmas
pub mod StretchLemmas
pub mod TilingLemmas
pub mod TickLemmas
pub mod MarkLemmas
pub mod AlikeLemmas
