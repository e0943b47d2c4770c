pub mod Scanning
pub mod Taken
pub mod Nodes
pub mod Found
pub mod Counted
