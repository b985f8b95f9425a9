pub mod Motions
pub mod Ways
pub mod Quorums
pub mod Pursuits
pub mod Striped
