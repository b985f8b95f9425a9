pub mod Servers
pub mod Cells
pub mod Tallies
pub mod Steps
pub mod Law
pub mod Outcomes
