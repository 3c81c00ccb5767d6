pub mod Managing
pub mod Folding
pub mod Storing
pub mod Parts
pub mod Spelled
