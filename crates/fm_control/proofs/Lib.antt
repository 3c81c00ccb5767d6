pub mod Controlled
pub mod Behind
pub mod Running
pub mod Settled
