pub mod Repeats
pub mod Index
pub mod NodeLaws
