pub mod Serving
pub mod Says
pub mod Majorities
pub mod Telling
