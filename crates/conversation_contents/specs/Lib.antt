pub mod Entries
pub mod Left
pub mod Numbers
pub mod Settled
