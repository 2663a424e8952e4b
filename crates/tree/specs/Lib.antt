pub mod Slots
pub mod Empty
pub mod Reading
pub mod Search
pub mod Unique
