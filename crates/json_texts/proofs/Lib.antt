pub mod Ahead
mod Begun
mod Blanks
pub mod FoundNumbers
pub mod FoundStrings
pub mod FoundValues
pub mod Lanes
pub mod Lexed
pub mod NaturalRuns
pub mod NumberItems
pub mod Placed
pub mod ReadBack
pub mod Runs
pub mod Whole
mod Written
