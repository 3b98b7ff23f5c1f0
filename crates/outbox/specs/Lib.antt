pub mod Inner
pub mod Output
