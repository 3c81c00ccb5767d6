pub mod Branched
pub mod Managing
pub mod PuttingBack
pub mod Roomy
pub mod Spelled
pub mod Voting
