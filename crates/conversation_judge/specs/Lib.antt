pub mod Judged
pub mod Said
