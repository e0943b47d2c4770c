pub mod Growing
pub mod Taking
