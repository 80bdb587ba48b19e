pub mod Claims
pub mod Parts
pub mod States
