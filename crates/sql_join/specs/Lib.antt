pub mod Sources
pub mod Seeking
pub mod Keys
pub mod Grouping
pub mod Keeping
pub mod Walking
pub mod Folding
