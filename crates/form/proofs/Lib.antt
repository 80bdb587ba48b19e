mod Steps
mod Walking
mod OfGlobals
mod OfCallables
mod OfKeys
mod OfKinds
mod OfNumerals
mod OfActions
mod OfNames
mod OfDefaults
mod OfTables
mod OfPairs
mod OfStates
mod Whole
mod Widths
pub mod Laid
pub mod Outcomes
