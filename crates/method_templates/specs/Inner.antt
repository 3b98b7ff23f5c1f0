-- What no public clause cites: how the values that types hold are seen.
pub mod FormFalls
pub mod Name
pub mod Rows
