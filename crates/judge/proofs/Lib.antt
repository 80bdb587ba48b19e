mod Bridge
mod Passes
pub mod Outcomes
pub mod Left
pub mod Long
