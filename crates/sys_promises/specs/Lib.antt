pub mod Recorded
pub mod Taken
