mod Sizes
mod Taking
mod Handing
pub mod Unique
