pub mod Bounded
pub mod Heads
pub mod Checkpoints
pub mod Works
pub mod Plans
pub mod Executions
pub mod Lines
pub mod Sameness
