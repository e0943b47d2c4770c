pub mod Names
pub mod Flawed
pub mod Ruled
pub mod Sited
pub mod Placing
