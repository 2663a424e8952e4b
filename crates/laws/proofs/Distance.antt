pub mod Excess
pub mod SquaredNorm
