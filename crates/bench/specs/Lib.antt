pub mod Entries
pub mod Flushes
pub mod Placed
