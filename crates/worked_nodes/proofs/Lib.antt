pub mod Alone
pub mod Five
pub mod Floor
pub mod Free
pub mod Resting
