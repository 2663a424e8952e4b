mod Clip
mod Fields
mod Scaled
pub mod Unique
