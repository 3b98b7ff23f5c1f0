pub mod Agreeing
pub mod Digits
pub mod Elements
pub mod Sizes
pub mod Texts
