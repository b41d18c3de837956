pub mod Windows
pub mod Execution
pub mod Packing
pub mod Packed
pub mod Code
