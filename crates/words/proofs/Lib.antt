pub mod Halves
pub mod Masks
pub mod Matching
pub mod Pieces
pub mod Shifts
pub mod Tables
