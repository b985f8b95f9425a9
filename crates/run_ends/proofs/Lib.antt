pub mod Counting
mod Lacking
pub mod Turns
pub mod Sessions
pub mod Placing
pub mod Reports
pub mod Finding
pub mod Lines
pub mod Replacements
pub mod Trims
pub mod Ending
pub mod Reading
mod Standing
mod Showing
mod Fronts
pub mod Contents
pub mod Rules
pub mod Views
