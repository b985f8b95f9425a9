pub mod Stopping
pub mod Ok
pub mod Notes
pub mod Playing
pub mod Working
pub mod Crews
pub mod Outside
pub mod Arming
