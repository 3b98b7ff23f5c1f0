pub mod Fits
pub mod Firsts
pub mod InLine
pub mod Left
pub mod Marked
pub mod Steps
pub mod Targeted
