pub mod Breaks
pub mod Found
pub mod Answers
