pub mod Last
pub mod Stamps
