pub mod Filled
pub mod Rows
mod Digits
