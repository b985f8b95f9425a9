pub mod Records
pub mod Layout
pub mod Journal
pub mod Kept
