pub mod Begun
pub mod Faults
pub mod Halting
pub mod Resolving
