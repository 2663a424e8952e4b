pub mod Pieces
pub mod WholeInput
pub mod Streams
