pub mod Alone
pub mod Beside
pub mod Floors
pub mod Seats
pub mod Telling
