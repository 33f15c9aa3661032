pub mod Empty
pub mod Levels
pub mod Names
pub mod Members
pub mod Nodes
pub mod Declarations
pub mod Ready
pub mod Readings
