pub mod Initial
pub mod States
pub mod Steps
pub mod Tallies
