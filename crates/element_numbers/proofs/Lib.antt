pub mod Numbers
pub mod Held
pub mod Counting
pub mod Leading
pub mod Faults
