pub mod Records
pub mod Faults
pub mod Steps
pub mod Writes
