pub mod Giving
pub mod deciding
pub mod Unique
