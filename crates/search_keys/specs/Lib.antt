pub mod Bytes
pub mod Key
pub mod InRange
pub mod Counts
pub mod Limit
pub mod Taken
