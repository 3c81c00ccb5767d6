pub mod Handles
pub mod Made
pub mod Named
pub mod Touched
