pub mod Effects
pub mod Leaving
pub mod Working
pub mod Machine
