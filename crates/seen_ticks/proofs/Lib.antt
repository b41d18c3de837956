pub mod SeenLemmas
pub mod ToldLemmas
pub mod SeenSteps
pub mod Counting
pub mod Staying
pub mod Holding
pub mod Telling
