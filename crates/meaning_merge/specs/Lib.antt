pub mod Claimed
pub mod History
pub mod Merging
pub mod Restoring
pub mod Touching
