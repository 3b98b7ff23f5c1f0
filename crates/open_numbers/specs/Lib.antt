pub mod Kept
pub mod Numbers
pub mod OpenCalls
pub mod Replies
pub mod Requests
pub mod SpareBlocks
