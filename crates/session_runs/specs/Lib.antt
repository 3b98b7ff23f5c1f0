pub mod Arriving
pub mod Runs
