pub mod Views
pub mod Found
pub mod Members
pub mod Firsts
mod Readings
mod ExprsStand
mod StmtsStand
mod PartsStand
mod TablesStand
mod StatesStand
pub mod Seen
pub mod Standing
pub mod Numbered
