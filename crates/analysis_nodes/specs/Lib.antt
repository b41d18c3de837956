pub mod Outcomes
pub mod Nodes
pub mod Refusals
pub mod Found
pub mod Graph
pub mod Laws
