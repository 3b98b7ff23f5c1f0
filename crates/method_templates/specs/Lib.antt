pub mod Form
pub mod Inner
pub mod Locals
pub mod Names
pub mod Shape
pub mod Steps
pub mod Value
