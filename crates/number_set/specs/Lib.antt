pub mod Dense
pub mod Lends
pub mod LendsSome
pub mod Levels
pub mod Numbers
pub mod Words
