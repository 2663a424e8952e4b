mod Halves
pub mod Unique
