pub mod Layout
pub mod Replies
pub mod Words
pub mod Steps
pub mod Hearing
