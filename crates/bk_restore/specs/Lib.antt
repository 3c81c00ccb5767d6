pub mod Differing
pub mod Handles
pub mod Planning
