pub mod Tests
pub mod Measuring
pub mod Unique
