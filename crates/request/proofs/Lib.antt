pub mod ReadBack
pub mod Unique
pub mod Wrote
