pub mod Loops
pub mod Undone
pub mod Counted
pub mod Idle
pub mod Untold
