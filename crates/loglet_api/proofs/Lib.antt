pub mod Callers
pub mod Keeps
pub mod Says
pub mod Promises
