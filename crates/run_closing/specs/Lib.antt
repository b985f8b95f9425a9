pub mod Ending
pub mod Collecting
pub mod Finishing
pub mod Opening
pub mod Taking
pub mod Telling
