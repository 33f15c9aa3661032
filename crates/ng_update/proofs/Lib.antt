pub mod Lists
pub mod Worlds
pub mod Nodes
pub mod Pages
pub mod Pieces
pub mod Prints
pub mod Targets
