pub mod Accessors
pub mod Location
pub mod Numbers
