pub mod Envelope
pub mod Named
pub mod Numbers
pub mod Params
pub mod ReadBack
pub mod Reading
pub mod Texts
