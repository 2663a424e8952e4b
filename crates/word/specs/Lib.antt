pub mod Options
pub mod Words
pub mod Tables
pub mod Unique
pub mod Sizes
