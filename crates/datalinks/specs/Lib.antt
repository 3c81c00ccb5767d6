pub mod Codes
pub mod Complete
pub mod Lines
pub mod Run
pub mod Script
