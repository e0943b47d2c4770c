pub mod Places
pub mod Pushing
pub mod SameKeys
pub mod Stands
