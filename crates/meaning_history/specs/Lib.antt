pub mod Reached
pub mod Sound
pub mod Standing
