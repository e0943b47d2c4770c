pub mod Listed
pub mod Numbers
pub mod Placed
pub mod Places
