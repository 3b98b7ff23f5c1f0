pub mod Answered
pub mod Ascending
pub mod Finished
pub mod Forgotten
pub mod Laws
pub mod Opening
pub mod Texts
pub mod Views
