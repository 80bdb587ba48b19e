pub mod Judging
mod Lent
mod Running
pub mod Ending
mod Printing
pub mod Promises
