pub mod Bags
pub mod Keys
