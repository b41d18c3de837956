pub mod Everywhere
pub mod SameFigures
