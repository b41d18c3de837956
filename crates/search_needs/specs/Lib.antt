pub mod Table
pub mod Within
pub mod Entries
pub mod Asked
pub mod Everything
