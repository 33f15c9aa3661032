pub mod Causes
pub mod Files
pub mod Taken
pub mod Memory
