pub mod Promises
pub mod Stops
