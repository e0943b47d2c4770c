pub mod Reading
pub mod Readied
