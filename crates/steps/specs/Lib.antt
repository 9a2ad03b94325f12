pub mod Bench
pub mod Laws
pub mod Order
pub mod Steps
