mod Makings
pub mod Opening
pub mod Resuming
