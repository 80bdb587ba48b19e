pub mod Claims
pub mod Leaves
pub mod Calls
pub mod Forms
pub mod Numbers
