pub mod Matching
pub mod LookingUp
