pub mod Puts
pub mod Within
