pub mod Calls
pub mod Making
pub mod Causes
pub mod Steps
pub mod Stored
pub mod Answers
pub mod Names
