pub mod Running
pub mod Sessions
pub mod Turning
