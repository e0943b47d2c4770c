pub mod KeptLists
pub mod Changing
