pub mod Enclosed
pub mod Served
