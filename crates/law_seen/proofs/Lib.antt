pub mod Shown
pub mod AlikeShown
pub mod NeededShown
