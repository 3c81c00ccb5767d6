pub mod Orders
pub mod Lines
pub mod Refusals
pub mod Printed
pub mod Expansion
pub mod Outlines
pub mod Actors
