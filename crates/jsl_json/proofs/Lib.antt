pub mod Nesting
pub mod Lists
