pub mod Cells
pub mod Parts
pub mod Events
pub mod Guards
pub mod Steps
pub mod Logs
pub mod Moves
pub mod Laws
