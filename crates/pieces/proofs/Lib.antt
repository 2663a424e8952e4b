pub mod Made
pub mod Passed
pub mod Room
pub mod Through
pub mod Unique
