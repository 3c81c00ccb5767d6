pub mod Complete
pub mod Opened
pub mod Passing
pub mod Sources
pub mod Standing
pub mod Whole
