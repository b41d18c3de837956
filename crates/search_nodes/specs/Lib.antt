pub mod Ground
pub mod Found
