pub mod Rules
pub mod Texts
pub mod Hits
