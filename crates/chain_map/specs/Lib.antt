pub mod Chain
pub mod Format
pub mod Place
pub mod Reading
pub mod Step
