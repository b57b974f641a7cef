pub mod Holds
pub mod Finishing
