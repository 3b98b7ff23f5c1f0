pub mod Events
pub mod Framings
pub mod HandedOn
pub mod Inner
pub mod Session
pub mod SessionState
pub mod Turned
