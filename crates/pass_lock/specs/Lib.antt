pub mod Journal
pub mod Pass
pub mod Rule
pub mod Steps
