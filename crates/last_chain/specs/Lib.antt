pub mod Gifts
pub mod Last
