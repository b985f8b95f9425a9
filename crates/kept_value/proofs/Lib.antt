pub mod Laws
mod Replaying
pub mod Counts
