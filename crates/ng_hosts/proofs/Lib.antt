pub mod Positions
pub mod Adding
pub mod Hits
pub mod Found
