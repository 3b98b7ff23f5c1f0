pub mod Framings
pub mod Inner
pub mod Promise
pub mod Standing
pub mod Stream
