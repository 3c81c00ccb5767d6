pub mod Columns
pub mod Conditions
pub mod Datalinks
pub mod Faults
pub mod Fitting
pub mod Operators
pub mod Types
pub mod Values
