pub mod Least
pub mod LeastLaws
pub mod Forms
