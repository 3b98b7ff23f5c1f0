mod Behind
mod Fixed
mod Joined
pub mod OnResults
