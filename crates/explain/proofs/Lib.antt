pub mod Joined
pub mod Packs
pub mod States
pub mod Plans
pub mod Tellings
pub mod Trees
pub mod Views
