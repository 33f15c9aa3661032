pub mod Sequences
pub mod Lists
pub mod Laws
pub mod Nested
pub mod Agreement
pub mod Turns
pub mod Closed
