pub mod Firsts
pub mod Freed
pub mod Holding
pub mod Keys
pub mod Lists
pub mod Ranks
pub mod Replies
pub mod SessionLevel
pub mod Sinking
pub mod Start
pub mod TableLevel
pub mod TrimLevel
pub mod ViewLevel
pub mod Whole
pub mod Words
pub mod Acting
pub mod Pairs
pub mod Places
pub mod Membership
mod Readings
mod Fitting
mod Telling
