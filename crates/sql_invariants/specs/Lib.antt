pub mod Free
pub mod Ordered
