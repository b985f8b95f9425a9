pub mod Members
pub mod Plans
pub mod Pendings
pub mod Course
pub mod Strays
