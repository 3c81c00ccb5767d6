pub mod Parsing
pub mod Reserving
