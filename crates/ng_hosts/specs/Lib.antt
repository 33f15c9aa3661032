pub mod Hosts
pub mod Index
