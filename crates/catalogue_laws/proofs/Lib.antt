pub mod OtherNames
pub mod ShownInstances
pub mod Leavers
pub mod OverHidden
pub mod SameNames
