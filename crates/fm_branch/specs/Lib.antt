pub mod Codes
pub mod Held
pub mod Linked
pub mod Table
pub mod Shown
