pub mod Codes
pub mod Answers
pub mod Moves
pub mod Steps
