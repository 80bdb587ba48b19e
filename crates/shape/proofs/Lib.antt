mod Laws
mod Agrees
mod Lays
mod Tags
mod Exprs
mod Targets
mod Stmts
mod Parts
mod Holders
mod Listings
mod Walking
mod Starts
mod Transitions
mod Programs
pub mod Ended
mod Orders
pub mod Lines
pub mod Entries
pub mod Outcomes
