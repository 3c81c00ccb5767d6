pub mod Walking
pub mod Early
pub mod Passed
pub mod Keeping
pub mod Apart
pub mod Folding
