pub mod Steps
pub mod Script
pub mod Race
