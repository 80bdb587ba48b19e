mod Held
mod Rank
mod Sums
mod Counting
mod CountingStmts
mod CountingTables
mod CountingStates
pub mod Whole
