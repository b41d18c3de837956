pub mod Peaks
pub mod Noting
pub mod Raising
