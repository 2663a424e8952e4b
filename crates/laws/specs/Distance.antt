-- The distance: its greatest value, source document 000's norm, the two costs of a slot, and the one least word.
pub mod Excess
pub mod GreatestDistance
pub mod Least
pub mod SquaredNorm
