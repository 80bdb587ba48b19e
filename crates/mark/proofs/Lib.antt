pub mod Most
mod Marking
