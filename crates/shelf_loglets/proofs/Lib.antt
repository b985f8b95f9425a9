pub mod Stripes
pub mod Sent
