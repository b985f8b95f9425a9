pub mod Majorities
