pub mod Batches
pub mod Inner
pub mod Lends
pub mod Owed
pub mod Slots
