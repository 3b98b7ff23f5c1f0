-- What no public clause cites: the laws of lower crates, together.
pub mod Known
