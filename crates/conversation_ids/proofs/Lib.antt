pub mod Having
pub mod Numbers
pub mod OneMark
pub mod Running
pub mod Steps
pub mod Values
