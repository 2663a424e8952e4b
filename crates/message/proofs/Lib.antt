mod Moves
pub mod Unique
