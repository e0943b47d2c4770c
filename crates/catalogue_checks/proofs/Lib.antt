pub mod Floats
pub mod Judging
