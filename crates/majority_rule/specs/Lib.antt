pub mod Majority
