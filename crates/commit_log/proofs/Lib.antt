pub mod Batches
pub mod Openings
pub mod Databases
