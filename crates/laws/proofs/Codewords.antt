pub mod Matrix
pub mod Weight
