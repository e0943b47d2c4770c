pub mod Rising
pub mod LentParameters
pub mod Pairs
pub mod Floats
pub mod Texts
pub mod Halving
pub mod Lines
pub mod ParameterMembers
