-- What no public clause cites.
pub mod FreeSlots
pub mod Kept
