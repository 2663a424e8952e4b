pub mod Bound
pub mod Table
pub mod Adding
pub mod Cells
pub mod Lanes
