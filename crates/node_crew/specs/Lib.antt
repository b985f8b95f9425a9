pub mod Notes
pub mod Stops
pub mod Turns
pub mod Crews
pub mod Arming
