pub mod Spaced
pub mod Expiries
pub mod Setting
pub mod Apart
