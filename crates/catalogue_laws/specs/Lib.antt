pub mod Renaming
pub mod Leaving
