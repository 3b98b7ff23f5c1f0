pub mod SeenOrNot
pub mod ToldSoFar
