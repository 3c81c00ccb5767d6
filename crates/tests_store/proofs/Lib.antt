pub mod Nothing
pub mod Phases
