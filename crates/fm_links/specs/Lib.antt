pub mod Claims
pub mod Searching
pub mod Guarding
pub mod Stepping
