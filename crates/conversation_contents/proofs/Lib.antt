pub mod Behind
pub mod Cases
pub mod Indexes
pub mod Lists
pub mod OwedSteps
pub mod Pairs
pub mod Places
pub mod Told
