mod Ones
mod All
mod KeyKinds
mod Betters
mod Looks
pub mod Judged
