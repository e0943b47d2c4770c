pub mod Names
pub mod Means
pub mod Uses
pub mod Shown
