-- What no public clause cites: how the parts of the reader are seen.
pub mod Seen
pub mod Words
