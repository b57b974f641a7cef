pub mod Attempts
pub mod Own
pub mod Latest
pub mod Reading
pub mod Reads
pub mod Cursor
pub mod Runs
