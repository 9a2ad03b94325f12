pub mod Faults
pub mod Orams
pub mod Calls
pub mod Worked
pub mod Requests
pub mod Runs
