pub mod Asking
pub mod Calls
pub mod Endings
pub mod Figures
pub mod Met
pub mod Parts
pub mod Rows
pub mod Talks
