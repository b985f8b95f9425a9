pub mod Striping
pub mod Shares
