pub mod Own
pub mod Seals
pub mod Versions
pub mod Faults
pub mod Changes
