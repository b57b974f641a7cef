mod Walks
pub mod Steps
pub mod Stays
pub mod Sendable
