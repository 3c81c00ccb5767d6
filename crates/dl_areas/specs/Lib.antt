pub mod Batch
pub mod Lists
pub mod Opening
pub mod Writing
