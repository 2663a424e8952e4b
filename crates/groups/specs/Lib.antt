pub mod Doubling
pub mod Seating
pub mod Grouping
pub mod Unique
