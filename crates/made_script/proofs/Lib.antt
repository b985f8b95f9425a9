pub mod Ranges
pub mod Steps
pub mod Asking
pub mod Homes
pub mod Spelled
