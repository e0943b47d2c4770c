pub mod Copies
pub mod Headline
pub mod Seeing
pub mod Worlds
