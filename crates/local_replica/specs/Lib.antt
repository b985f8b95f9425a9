pub mod Shown
pub mod Posted
