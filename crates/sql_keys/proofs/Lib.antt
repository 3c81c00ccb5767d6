pub mod Examples
pub mod Joined
pub mod Leaving
pub mod Numbers
pub mod OnlyKey
pub mod Sound
pub mod Texts
