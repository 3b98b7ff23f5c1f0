pub mod Adds
pub mod Asks
pub mod Crossing
pub mod Elements
pub mod Follows
pub mod Fronts
pub mod Heard
pub mod Heards
pub mod Hearing
pub mod KeptItems
pub mod Lengths
pub mod Outgoings
pub mod Polls
pub mod Rehearsing
pub mod Runs
mod Sums
pub mod Turns
pub mod Within
