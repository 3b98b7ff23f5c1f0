pub mod Containers
pub mod Lexed
