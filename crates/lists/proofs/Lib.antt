pub mod Places
mod Steps
mod Keys
mod Actions
mod Tables
mod Rows
mod Fields
mod Globals
mod Packets
mod Together
pub mod Laid
pub mod Outcomes
