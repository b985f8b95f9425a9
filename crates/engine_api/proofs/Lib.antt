pub mod Appends
pub mod Gaps
pub mod Greatest
pub mod InTurn
pub mod Packed
pub mod Steps
pub mod Unpacked
