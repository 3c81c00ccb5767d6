pub mod Acting
pub mod Examples
pub mod Few
pub mod Lowering
pub mod Reading
pub mod Turns
