pub mod Gifts
pub mod Misses
pub mod Asking
