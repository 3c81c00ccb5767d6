pub mod Keys
pub mod Parts
pub mod Steps
pub mod Touched
