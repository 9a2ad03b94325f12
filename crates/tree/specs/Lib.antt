pub mod Blocks
pub mod Choice
pub mod Entries
pub mod Paths
pub mod Places
pub mod Queues
