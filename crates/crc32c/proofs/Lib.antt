pub mod Linear
pub mod Fours
pub mod Tables
pub mod Laws
