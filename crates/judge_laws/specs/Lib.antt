pub mod Messages
pub mod Tied
pub mod Values
