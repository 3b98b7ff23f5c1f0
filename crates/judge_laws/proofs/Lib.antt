pub mod Batches
pub mod Failures
pub mod Pieces
pub mod SaidStrictly
pub mod Spellings
pub mod Ties
