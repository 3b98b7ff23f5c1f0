mod Alike
mod Drains
mod Ended
mod Entering
mod Finished
pub mod HandedOn
mod Hearings
mod Picked
mod Waits
pub mod Puts
