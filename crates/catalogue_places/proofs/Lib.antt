pub mod Agreeing
pub mod Laws
pub mod Reaching
pub mod Linked
pub mod Unlisted
