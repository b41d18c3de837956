pub mod Bounds
pub mod RefusedAlarms
pub mod Refusals
pub mod Alike
pub mod Resting
pub mod Seeing
pub mod Jobless
pub mod Standing
