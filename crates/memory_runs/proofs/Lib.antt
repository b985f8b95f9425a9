pub mod Five
pub mod Ended
