pub mod Ends
pub mod More
