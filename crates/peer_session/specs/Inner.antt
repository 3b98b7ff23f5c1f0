-- What no public clause cites: how numbers are told and go out, what is put and counted, and what is waited for.
pub mod Marks
pub mod Reading
pub mod Turns
pub mod Waits
pub mod Writing
