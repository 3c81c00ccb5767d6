pub mod Beside
pub mod NewRows
pub mod Remaining
pub mod Touching
