pub mod Shallow
pub mod Order
pub mod Levels
pub mod Few
pub mod Whole
