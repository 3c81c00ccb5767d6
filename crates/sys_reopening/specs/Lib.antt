pub mod Again
pub mod Managing
