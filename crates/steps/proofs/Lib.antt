pub mod Going
mod Leaves
mod Ones
mod Twos
mod Single
pub mod Backs
mod ComesBack
