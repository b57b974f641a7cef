pub mod Packs
pub mod OneList
