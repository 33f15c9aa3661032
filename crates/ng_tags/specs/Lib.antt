pub mod Tags
pub mod Marks
pub mod Outlets
pub mod Reads
pub mod Tokens
