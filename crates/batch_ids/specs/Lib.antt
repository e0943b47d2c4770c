pub mod Metrics
pub mod Names
pub mod Parameters
pub mod Refusals
pub mod Statuses
