pub mod Lists
pub mod Sources
pub mod Selecting
pub mod Assigning
pub mod Creating
pub mod Changing
