pub mod Totals
pub mod Replay
pub mod Adds
