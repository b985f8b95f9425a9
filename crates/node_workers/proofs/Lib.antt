pub mod Joining
pub mod Answering
pub mod Working
pub mod Logging
pub mod Ok
pub mod Telling
pub mod Trimming
pub mod Stepping
