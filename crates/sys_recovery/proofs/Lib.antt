pub mod Reading
pub mod Holding
pub mod Restoring
pub mod Shapes
pub mod Stopping
