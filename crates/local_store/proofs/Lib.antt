pub mod Heads
pub mod SlotLaws
pub mod Keeping
pub mod Seeking
pub mod Whole
