pub mod Format
pub mod Reading
pub mod Changing
pub mod Spelled
