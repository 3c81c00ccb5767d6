pub mod Commands
pub mod Grammar
pub mod Words
