pub mod Files
pub mod Layout
pub mod Values
pub mod Rows
pub mod Links
pub mod Archive
pub mod Backups
