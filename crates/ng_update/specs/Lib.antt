pub mod Fields
pub mod Printed
pub mod Clicked
pub mod Running
pub mod After
