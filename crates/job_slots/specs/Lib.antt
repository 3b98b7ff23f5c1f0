pub mod Phases
pub mod Looks
pub mod Lawful
pub mod Steps
pub mod Seats
pub mod Closing
pub mod Inner
