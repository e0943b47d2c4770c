pub mod Copying
pub mod Remembering
pub mod Soundness
pub mod Stepping
pub mod Following
