pub mod Copies
pub mod Stock
