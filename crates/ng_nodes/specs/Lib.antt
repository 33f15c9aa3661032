pub mod Texts
pub mod Grammar
pub mod Machine
pub mod Limits
pub mod Reading
pub mod Gives
pub mod Waits
