pub mod Kept
pub mod Numbered
pub mod PageLemmas
pub mod Rows
pub mod StandIns
