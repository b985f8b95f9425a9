pub mod Writing
pub mod Reaching
pub mod Counting
pub mod Shares
mod Telling
mod Running
mod Lacks
mod Calm
mod Refusals
mod Register
mod Named
pub mod Changes
mod Entries
mod Others
mod Places
mod Trims
pub mod Sealed
pub mod Asked
