pub mod Decimals
pub mod Texts
pub mod Storing
pub mod Figures
pub mod Numbers
pub mod Measuring
pub mod Whole
pub mod Determined
