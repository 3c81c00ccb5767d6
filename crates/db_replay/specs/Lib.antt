pub mod Applying
pub mod Changes
pub mod Columns
pub mod Replaying
pub mod Rows
pub mod Standing
