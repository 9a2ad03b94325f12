pub mod Faults
pub mod Journals
pub mod Layout
pub mod Shapes
pub mod Stores
pub mod Tables
pub mod Tails
