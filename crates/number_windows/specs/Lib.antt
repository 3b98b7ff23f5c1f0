pub mod Lends
pub mod Numbered
pub mod Windows
