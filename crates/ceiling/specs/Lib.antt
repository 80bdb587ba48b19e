pub mod Cut
pub mod Claims
pub mod StateClaims
