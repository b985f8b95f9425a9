pub mod Begun
pub mod Lists
