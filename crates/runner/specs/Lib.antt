pub mod Runs
pub mod Forms
pub mod Claims
pub mod Parsing
pub mod Prepares
pub mod Whole
