pub mod Bytes
pub mod Decisions
pub mod Names
pub mod Objects
