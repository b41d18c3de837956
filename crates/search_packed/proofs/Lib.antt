pub mod BareLemmas
pub mod ZeroLemmas
pub mod UnbareLemmas
pub mod UnpackingLemmas
pub mod WorkedLemmas
pub mod PackingLemmas
pub mod FreeLemmas
