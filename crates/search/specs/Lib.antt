pub mod Rules
pub mod Searched
pub mod Levels
pub mod Numbers
pub mod Admitted
pub mod Visited
pub mod Outcomes
pub mod Subsets
