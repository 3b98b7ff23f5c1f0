pub mod Bits
pub mod Clerks
pub mod Closes
pub mod Frees
pub mod Lists
pub mod Views
pub mod Moves
pub mod Steps
