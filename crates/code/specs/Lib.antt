pub mod Made
pub mod Reading
pub mod Unique
