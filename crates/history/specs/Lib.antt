pub mod Cases
pub mod Histories
pub mod Secrecy
