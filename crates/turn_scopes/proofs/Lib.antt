pub mod Alone
pub mod Arming
pub mod Beside
pub mod Bounds
pub mod Moments
pub mod Seals
pub mod Trims
pub mod Widening
