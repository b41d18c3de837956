pub mod CountLemmas
pub mod DrawLemmas
pub mod DumpLemmas
pub mod LawLemmas
pub mod RunLemmas
pub mod SeenLemmas
pub mod MarkLemmas
pub mod TickLemmas
