pub mod Codes
pub mod Stands
pub mod Scopes
pub mod Looks
pub mod Keys
pub mod In
