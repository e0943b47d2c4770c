pub mod Putting
pub mod Reading
pub mod Replying
pub mod Starting
pub mod Listing
pub mod Assembling
pub mod Opening
pub mod Ending
pub mod Taking
pub mod Building
pub mod Readying
pub mod Answering
mod Words
pub mod Checking
