pub mod Layout
pub mod Printed
pub mod Plain
