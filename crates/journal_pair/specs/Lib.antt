pub mod Records
pub mod Layout
pub mod Cut
pub mod Journal
pub mod Kept
