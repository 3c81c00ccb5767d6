pub mod Examples
pub mod Turns
