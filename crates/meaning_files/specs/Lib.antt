pub mod Commands
pub mod Files
