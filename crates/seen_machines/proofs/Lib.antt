pub mod Acting
pub mod Executing
pub mod Stays
pub mod Shows
pub mod Bystanders
