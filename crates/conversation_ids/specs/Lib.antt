pub mod Digits
pub mod Inner
pub mod Marks
pub mod Next
pub mod OwedMarks
pub mod Ways
