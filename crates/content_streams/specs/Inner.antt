-- What no public clause cites.
pub mod Cutters
pub mod Cutting
pub mod Heads
pub mod Rows
