pub mod Names
pub mod Scope
pub mod Mentions
pub mod Usages
pub mod Templates
pub mod Declarations
