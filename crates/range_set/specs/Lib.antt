pub mod Gaps
pub mod Stored
pub mod Told
pub mod Calls
pub mod Steps
