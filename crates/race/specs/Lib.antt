pub mod Racing
pub mod Runs
