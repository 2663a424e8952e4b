pub mod Range
pub mod Printed
pub mod Measuring
pub mod Unique
