mod Counting
pub mod Kept
