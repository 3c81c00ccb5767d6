pub mod Named
pub mod Left
pub mod Kept
pub mod Complete
pub mod Through
pub mod Back
