pub mod Bases
pub mod Writing
