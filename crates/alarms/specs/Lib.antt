pub mod Alarms
pub mod Waits
pub mod Counters
