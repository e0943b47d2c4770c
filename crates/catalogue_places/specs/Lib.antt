pub mod Names
pub mod Flaws
pub mod Paths
pub mod Places
