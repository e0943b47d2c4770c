pub mod Lists
pub mod Restarted
