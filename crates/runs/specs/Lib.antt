pub mod Pairs
pub mod Secrecy
