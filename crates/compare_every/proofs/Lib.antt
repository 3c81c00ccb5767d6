pub mod Deciding
pub mod Lists
pub mod Maps
pub mod Rows
