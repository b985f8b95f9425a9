pub mod Faults
pub mod Sources
pub mod Sinks
pub mod Whole
pub mod Memory
