pub mod Verdicts
pub mod Unique
pub mod Passing
