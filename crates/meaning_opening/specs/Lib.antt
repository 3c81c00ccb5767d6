pub mod Fronts
pub mod Left
