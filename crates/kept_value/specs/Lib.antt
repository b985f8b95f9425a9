pub mod View
pub mod Keeping
pub mod Faults
