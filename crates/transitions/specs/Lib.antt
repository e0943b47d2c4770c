pub mod Patterns
pub mod Transitions
