pub mod Programs
pub mod Pieces
