pub mod LeastIs
pub mod Laws
