pub mod Committed
pub mod Moving
pub mod Resting
pub mod Rounds
