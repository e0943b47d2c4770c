pub mod Chains
pub mod Members
