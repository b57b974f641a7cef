pub mod Commands
pub mod Logged
pub mod Continuing
pub mod Replaying
pub mod ImageCode
pub mod Laws
pub mod Histories
pub mod Pairs
