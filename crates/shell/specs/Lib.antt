pub mod Further
pub mod Held
