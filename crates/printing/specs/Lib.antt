-- What `printing` prints.
pub mod Printed
