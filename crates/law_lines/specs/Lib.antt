pub mod LineLengths
pub mod HeldWords
