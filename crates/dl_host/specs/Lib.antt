pub mod Hosts
pub mod Held
pub mod Slots
pub mod Blind
pub mod Laws
