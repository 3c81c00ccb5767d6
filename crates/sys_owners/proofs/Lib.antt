pub mod Ending
pub mod InARow
pub mod Placing
pub mod Reading
pub mod Spelling
pub mod Taking
