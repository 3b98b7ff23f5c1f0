pub mod Answered
pub mod Asked
pub mod Breaking
pub mod Expected
pub mod Met
pub mod OurSide
pub mod Rows
pub mod Saying
