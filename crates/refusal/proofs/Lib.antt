pub mod Exits
pub mod Unique
