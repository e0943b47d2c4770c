pub mod Starts
pub mod Inside
pub mod Scan
pub mod Walk
