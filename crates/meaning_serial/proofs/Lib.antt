pub mod Alike
pub mod Beside
pub mod Deeds
pub mod Drawing
mod Examples
pub mod Freed
pub mod Merging
pub mod Outcomes
pub mod Replaying
pub mod Running
pub mod Saying
pub mod Scripting
pub mod Writing
