pub mod Belonging
pub mod Indexes
pub mod Left
pub mod Maps
pub mod Slots
pub mod Without
