pub mod Arriving
pub mod Modes
pub mod Cells
pub mod Promises
pub mod Texts
pub mod CsvText
pub mod Broken
pub mod Kept
