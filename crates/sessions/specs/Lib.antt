pub mod Sessions
pub mod Answered
