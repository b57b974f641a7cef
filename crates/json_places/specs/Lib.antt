pub mod OneLine
pub mod Places
