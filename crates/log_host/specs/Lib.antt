pub mod Host
pub mod Past
pub mod Noted
pub mod Laws
