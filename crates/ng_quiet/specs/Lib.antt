pub mod Quiet
pub mod Methods
pub mod Used
pub mod Reached
