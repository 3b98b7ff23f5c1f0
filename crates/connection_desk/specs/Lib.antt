pub mod Desks
pub mod Inner
