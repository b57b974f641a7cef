pub mod Folds
pub mod OneLines
