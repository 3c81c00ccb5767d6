pub mod Examples
pub mod LongLines
