pub mod Answers
pub mod Given
