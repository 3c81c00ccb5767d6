pub mod Differing
mod Examples
pub mod Leading
pub mod Named
pub mod Ordering
pub mod PlanLaws
