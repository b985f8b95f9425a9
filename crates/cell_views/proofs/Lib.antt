pub mod Opened
pub mod Sounds
pub mod Moves
pub mod Tells
pub mod Calls
