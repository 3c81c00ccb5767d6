pub mod Batch
pub mod Store
pub mod Table
