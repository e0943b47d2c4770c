pub mod Added
pub mod Rebuilt
pub mod Written
