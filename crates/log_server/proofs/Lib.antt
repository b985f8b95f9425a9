pub mod Servers
pub mod Compacted
pub mod Keeping
