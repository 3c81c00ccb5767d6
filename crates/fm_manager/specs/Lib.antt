pub mod Managed
pub mod Pieces
