pub mod Lists
pub mod Ran
pub mod Relabel
pub mod Seen
pub mod Sorts
