pub mod Ahead
pub mod Compacting
pub mod Found
pub mod Known
pub mod Naturals
pub mod Standing
pub mod Texts
