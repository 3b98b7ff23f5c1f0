-- What no public clause cites: what a decoder holds of the frame under way, and what the sources of this crate keep.
pub mod DeviceLaws
pub mod Partials
