mod Results
mod Operators
pub mod Same
