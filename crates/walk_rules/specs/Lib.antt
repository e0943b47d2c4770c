pub mod Continuations
pub mod Counts
pub mod Keys
pub mod Shown
pub mod Standing
pub mod Walk
