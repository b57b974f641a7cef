pub mod Pieces
pub mod OneMore
