pub mod Telling
pub mod Writing
pub mod Skipping
pub mod Growing
pub mod CutLaws
pub mod Cutting
pub mod Following
