-- Theorems over the rules, for every n, folding, mask and cost, in the order of the argument.
pub mod Numbers
pub mod Rows
pub mod Code
pub mod Distance
pub mod Guard
pub mod Walk
pub mod Seats
pub mod Light
pub mod Answers
