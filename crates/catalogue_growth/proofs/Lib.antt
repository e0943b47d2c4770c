pub mod Decisions
pub mod Equals
pub mod Places
