pub mod Branching
pub mod Naming
pub mod Transaction
pub mod Working
