pub mod Counting
pub mod Pieces
pub mod Results
pub mod Steps
