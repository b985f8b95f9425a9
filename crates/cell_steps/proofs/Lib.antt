pub mod Bounds
pub mod Majorities
pub mod Telling
