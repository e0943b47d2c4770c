pub mod Calls
pub mod Desks
pub mod Limits
