pub mod Fields
pub mod Numbers
pub mod Spaces
pub mod Spelling
