pub mod Packing
pub mod Keeping
pub mod RowRest
pub mod Steps
pub mod Trying
pub mod Unique
