pub mod Cuts
pub mod Decided
pub mod Retries
