pub mod Tables
pub mod BadSteps
pub mod InTurn
