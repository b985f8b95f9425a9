pub mod Spellings
pub mod Following
