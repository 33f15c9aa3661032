pub mod Writing
pub mod Told
pub mod Turns
pub mod Finish
pub mod Stopping
