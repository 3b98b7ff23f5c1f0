mod Sayable
pub mod AnswersBack
pub mod Batched
pub mod CallRows
pub mod Counted
pub mod Decimals
pub mod Enveloped
pub mod Lines
pub mod Members
pub mod Noted
pub mod OneLine
pub mod Quoted
pub mod SaidBack
pub mod Whole
