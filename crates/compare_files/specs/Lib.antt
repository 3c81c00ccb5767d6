pub mod Effects
pub mod Overlay
pub mod Copies
pub mod Numbers
