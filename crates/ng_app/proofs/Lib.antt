pub mod Places
pub mod Filled
pub mod Turned
pub mod Public
