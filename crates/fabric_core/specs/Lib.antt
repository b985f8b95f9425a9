pub mod Log
pub mod Runs
pub mod CellEvent
pub mod Fabric
pub mod RegisterEvent
