pub mod Apart
pub mod Resting
