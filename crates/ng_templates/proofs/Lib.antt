pub mod Alone
pub mod Light
pub mod Firsts
pub mod Goes
pub mod Whole
pub mod Turns
pub mod Public
