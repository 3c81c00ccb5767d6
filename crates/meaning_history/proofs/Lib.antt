pub mod Claims
pub mod Keeping
pub mod Naming
pub mod Past
pub mod Standing
pub mod Premises
pub mod Options
pub mod Steps
