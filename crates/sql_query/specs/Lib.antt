pub mod Items
pub mod Folding
pub mod Ordering
pub mod Merging
pub mod Grouping
pub mod Answering
pub mod Planning
