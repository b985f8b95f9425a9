pub mod Leaving
pub mod Walks
pub mod Turning
pub mod Counted
pub mod Positions
pub mod Reading
pub mod Implied
