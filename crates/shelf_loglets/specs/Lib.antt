pub mod Stripes
pub mod Shelf
