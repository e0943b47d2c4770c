pub mod Tasks
pub mod Transitions
pub mod Members
pub mod Elements
pub mod Catalogues
pub mod Faults
pub mod MemberViews
