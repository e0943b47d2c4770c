pub mod Flat
pub mod Kinds
pub mod Looks
pub mod Reads
pub mod TextObjects
