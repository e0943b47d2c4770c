pub mod Parsing
pub mod Counting
pub mod Crossing
