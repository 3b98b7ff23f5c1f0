pub mod Desk
pub mod Inner
pub mod Places
pub mod Seen
pub mod State
pub mod Waiting
