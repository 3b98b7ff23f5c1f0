-- What no public clause cites: what a unit brings, what is due to it, and the units inside.
pub mod Arrivals
pub mod Dues
pub mod Units
