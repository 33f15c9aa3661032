pub mod Words
pub mod Refusals
pub mod Allowed
pub mod Causes
pub mod Steps
pub mod Ends
