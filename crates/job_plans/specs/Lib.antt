pub mod Lists
pub mod Plans
pub mod Runnables
pub mod Spots
pub mod Cursors
