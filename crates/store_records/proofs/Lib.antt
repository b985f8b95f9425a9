pub mod ChangeLaws
pub mod Spellings
pub mod Following
