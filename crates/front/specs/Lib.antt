pub mod Fronts
pub mod Upkeep
pub mod Requests
