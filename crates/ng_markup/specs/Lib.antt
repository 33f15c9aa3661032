pub mod Parts
pub mod Halts
