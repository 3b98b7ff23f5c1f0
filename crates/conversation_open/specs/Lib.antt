pub mod Lending
pub mod Marked
pub mod Open
pub mod Within
