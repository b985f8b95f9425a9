pub mod Replica
pub mod Fresh
