pub mod Mirrors
pub mod Places
pub mod Fills
pub mod Changes
pub mod Packets
