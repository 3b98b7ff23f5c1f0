pub mod Inner
pub mod Judged
pub mod Made
pub mod Shown
pub mod Steps
