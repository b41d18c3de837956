pub mod Standing
pub mod ReadySince
pub mod Ending
pub mod HeldSince
pub mod PendingSince
pub mod Starting
