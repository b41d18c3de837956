pub mod Shown
pub mod ShownAlike
pub mod Seen
