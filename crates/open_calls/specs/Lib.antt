pub mod Inner
pub mod Numbered
pub mod Own
pub mod Theirs
