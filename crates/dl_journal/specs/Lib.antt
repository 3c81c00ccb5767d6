pub mod Extent
pub mod Open
pub mod Records
pub mod Steps
