pub mod Changes
pub mod Copying
pub mod Owners
pub mod Reading
pub mod Sites
