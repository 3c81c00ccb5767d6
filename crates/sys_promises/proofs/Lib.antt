pub mod Later
pub mod Leaving
pub mod Placed
pub mod Still
pub mod Votes
