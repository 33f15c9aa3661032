pub mod Feed
pub mod Inside
pub mod Names
pub mod Order
pub mod OrderTotal
pub mod Same
pub mod Texts
