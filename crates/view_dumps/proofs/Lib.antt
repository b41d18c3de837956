pub mod BinaryLemmas
pub mod EachLemmas
pub mod DeclarationLemmas
pub mod AgainLemmas
pub mod LossLemmas
pub mod RunLemmas
pub mod SmallLemmas
pub mod TimeLemmas
