pub mod Shifts
pub mod Unique
