pub mod Indexed
pub mod Listed
pub mod Marks
pub mod OutOfReach
pub mod Places
pub mod Reached
pub mod Shown
pub mod Tests
