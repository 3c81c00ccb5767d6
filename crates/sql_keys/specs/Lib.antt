pub mod Asking
pub mod Finding
pub mod Keys
pub mod Rows
