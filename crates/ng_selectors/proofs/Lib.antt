pub mod Words
pub mod Complete
pub mod Sound
pub mod Turns
pub mod Splits
mod Examples
