pub mod Comparing
pub mod Fitting
pub mod Moving
pub mod Walking
