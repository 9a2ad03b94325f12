pub mod Lines
pub mod Messages
pub mod Quotes
pub mod Replies
