pub mod Comparing
pub mod Moving
