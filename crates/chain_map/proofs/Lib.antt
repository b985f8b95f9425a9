pub mod ChainFieldLaws
pub mod Changes
pub mod Links
pub mod Places
pub mod Runs
pub mod SegmentLaws
pub mod Spellings
