pub mod Closing
pub mod Rows
pub mod Ends
pub mod Rules
pub mod Told
