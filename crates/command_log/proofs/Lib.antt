pub mod ReadBack
pub mod Bytes
