pub mod Members
pub mod Counts
pub mod TextObjects
pub mod Tokens
