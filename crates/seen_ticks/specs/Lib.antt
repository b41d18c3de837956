pub mod Shown
pub mod Told
pub mod Observed
pub mod Seen
