pub mod Texts
pub mod Tags
pub mod Histories
pub mod Faults
pub mod Openings
pub mod Logged
pub mod Compactions
