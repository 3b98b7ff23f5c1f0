pub mod Fitting
pub mod Steps
pub mod Laws
pub mod Wholes
