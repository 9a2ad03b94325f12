pub mod Along
pub mod Equal
pub mod Eight
pub mod Ready
pub mod Turns
