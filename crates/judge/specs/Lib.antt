pub mod Verdicts
pub mod Passes
