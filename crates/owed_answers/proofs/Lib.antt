pub mod BatchLemmas
pub mod OwedLemmas
pub mod OwedTexts
