pub mod Chunks
pub mod Entries
pub mod Journaling
pub mod Logs
pub mod Replays
pub mod Transfers
