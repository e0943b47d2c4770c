pub mod Numbering
pub mod Ways
