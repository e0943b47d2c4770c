pub mod Laws
pub mod Partitions
pub mod StepExecutions
