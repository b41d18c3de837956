pub mod AgeLists
pub mod Ticks
pub mod Labels
pub mod Joining
pub mod Parts
