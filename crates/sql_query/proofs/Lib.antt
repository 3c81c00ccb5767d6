pub mod Bound
pub mod Fitting
pub mod Folds
pub mod Orders
pub mod Merging
pub mod Groups
pub mod Whole
