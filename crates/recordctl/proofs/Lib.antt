pub mod KnownInput
pub mod Told
