pub mod Answered
pub mod Loops
pub mod Sources
pub mod Parsed
pub mod Places
pub mod Reserving
