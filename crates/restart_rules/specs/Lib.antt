pub mod Histories
pub mod Placed
pub mod Restarting
