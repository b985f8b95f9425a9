pub mod Tables
pub mod Nested
pub mod Steps
pub mod Rule
pub mod Queue
pub mod Views
