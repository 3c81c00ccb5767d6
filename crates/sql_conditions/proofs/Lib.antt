pub mod Listing
pub mod Reach
