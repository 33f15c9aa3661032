pub mod Grammar
pub mod Parse
pub mod Reading
pub mod Classes
pub mod Gives
pub mod Fits
pub mod FitsLaws
pub mod Slots
