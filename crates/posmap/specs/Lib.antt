pub mod Faults
pub mod Flat
pub mod Maps
pub mod Wholes
