pub mod Entries
pub mod Folding
pub mod Listing
