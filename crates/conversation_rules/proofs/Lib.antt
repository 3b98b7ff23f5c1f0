pub mod Growing
pub mod Targets
