pub mod Handling
pub mod GoingOn
