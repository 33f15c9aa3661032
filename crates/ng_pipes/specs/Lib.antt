pub mod Pipes
