pub mod Log
pub mod Cells
pub mod Sound
pub mod Legal
pub mod Chains
pub mod Taken
pub mod Sealing
