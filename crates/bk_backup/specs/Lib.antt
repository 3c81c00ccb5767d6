pub mod Images
pub mod Saved
