pub mod PeakLemmas
pub mod NotingLemmas
