pub mod Stages
pub mod Counts
pub mod Verdicts
pub mod Hears
pub mod Falls
