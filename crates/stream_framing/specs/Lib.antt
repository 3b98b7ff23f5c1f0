pub mod Framed
pub mod Inner
pub mod Lines
