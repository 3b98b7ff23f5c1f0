-- What no public clause cites: where a run stands between two steps, and what private functions promise one another.
pub mod Course
pub mod Fault
pub mod Handler
pub mod Rehearsing
pub mod Running
pub mod Standing
