pub mod Apart
pub mod Fresh
