pub mod Spelling
pub mod Lexes
pub mod Scan
pub mod Joined
