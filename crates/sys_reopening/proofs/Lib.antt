pub mod Alike
pub mod Empty
pub mod Finding
pub mod Leading
pub mod Standing
