-- The worked rows: small histories with what is told, written and refused, each by computation.
mod Answers
mod Broken
mod Calls
mod Cancels
mod Counts
mod End
mod Mcp
mod Words
