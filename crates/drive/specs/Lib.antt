pub mod Driving
pub mod Errors
pub mod Histories
pub mod Rounds
pub mod Wanted
