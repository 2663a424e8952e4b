pub mod Copied
pub mod Unique
