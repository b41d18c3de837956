pub mod Kinds
pub mod Measures
