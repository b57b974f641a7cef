pub mod Accepting
pub mod Performing
pub mod Stores
pub mod Logs
pub mod Replays
pub mod Histories
pub mod Wholes
pub mod Whys
