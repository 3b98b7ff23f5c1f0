mod AnswerTexts
mod BatchReadBack
mod CallTexts
mod Contents
mod Elements
mod Envelopes
mod Flat
mod KeyLemmas
mod Named
mod Placed
mod Shown
mod TakenMember
mod Tokens
pub mod Stream
pub mod Units
