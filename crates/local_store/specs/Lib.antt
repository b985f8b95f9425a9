pub mod Codes
pub mod Keys
pub mod Slots
pub mod View
pub mod Keeping
