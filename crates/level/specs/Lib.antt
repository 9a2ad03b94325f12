pub mod Facts
pub mod Levels
pub mod Meaning
