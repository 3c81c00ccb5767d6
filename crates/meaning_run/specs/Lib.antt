pub mod Built
pub mod Running
