pub mod Disk
pub mod Armed
pub mod Crash
pub mod CrashLaws
pub mod Torn
pub mod Memory
pub mod MemoryKept
pub mod Failing
