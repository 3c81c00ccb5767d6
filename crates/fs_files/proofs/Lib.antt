pub mod Alone
pub mod Folding
pub mod Listing
pub mod Tables
pub mod Writing
