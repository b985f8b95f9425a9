pub mod Replaying
pub mod Whole
pub mod Numbers
pub mod Sums
pub mod Adding
pub mod Permuting
pub mod Ranks
pub mod Amounts
