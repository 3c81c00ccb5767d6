pub mod Alike
pub mod Freely
pub mod Scripts
pub mod Serial
