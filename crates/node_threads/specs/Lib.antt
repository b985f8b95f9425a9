pub mod Parts
pub mod Passes
pub mod Phases
pub mod Posts
pub mod Running
pub mod Each
pub mod Outset
pub mod Stirring
