pub mod Arming
pub mod Registering
pub mod Telling
pub mod Seeing
pub mod Running
