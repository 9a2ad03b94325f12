pub mod Faults
pub mod Requests
pub mod Rows
pub mod Trials
