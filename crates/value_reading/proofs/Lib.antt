pub mod Elements
pub mod Lexemes
pub mod Placed
pub mod Quoted
