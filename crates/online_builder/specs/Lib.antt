pub mod Stepping
pub mod Advance
