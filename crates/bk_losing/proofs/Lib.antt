pub mod Cells
pub mod LostLaws
pub mod Named
pub mod WayLaws
pub mod Without
