pub mod Number
pub mod Printed
pub mod Results
pub mod Unique
