pub mod Showing
pub mod Layering
pub mod Posting
