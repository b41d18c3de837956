pub mod Counted
pub mod Drawn
pub mod Dumps
pub mod Law
pub mod Seen
