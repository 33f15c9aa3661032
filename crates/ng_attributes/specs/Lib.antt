pub mod Answers
pub mod Places
pub mod Runs
pub mod Forms
pub mod Spelling
pub mod Pieces
