pub mod Areas
pub mod Front
pub mod Cutting
pub mod Growing
pub mod Moving
pub mod Whole
