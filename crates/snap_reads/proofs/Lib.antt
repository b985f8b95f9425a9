pub mod Nested
pub mod Keeps
pub mod Steps
pub mod Looks
pub mod Showing
