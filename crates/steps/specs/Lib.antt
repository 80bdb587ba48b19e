pub mod Outcomes
pub mod Operands
pub mod Singles
pub mod Calls
