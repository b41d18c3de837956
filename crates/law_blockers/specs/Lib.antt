pub mod Steps
pub mod Stamps
pub mod Restamping
pub mod Laws
