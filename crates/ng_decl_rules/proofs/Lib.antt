pub mod Laws
pub mod Flags
