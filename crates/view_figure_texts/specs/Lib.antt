pub mod Rounding
pub mod Words
pub mod Tables
pub mod Sections
pub mod Csv
pub mod Limits
