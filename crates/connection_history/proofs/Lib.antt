mod Allowed
pub mod Along
mod CallsTold
mod CancelsOpen
mod CancelsReached
mod CancelsTold
pub mod Dues
mod Ending
mod GivenUp
mod Growth
pub mod Histories
pub mod Lawful
mod Left
pub mod Numbers
pub mod OpenCalls
pub mod OurCalls
pub mod Outs
mod Owed
mod Places
mod Plain
mod Prompt
mod RepliesTold
mod RepliesWaiting
pub mod Rise
mod Rows
pub mod Streams
pub mod Tests
mod Unanswered
pub mod Waiting
mod Written
