pub mod Codes
pub mod Findings
pub mod Options
pub mod Seeing
pub mod Telling
