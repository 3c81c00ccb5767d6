pub mod Building
pub mod Finding
pub mod Folding
pub mod Images
