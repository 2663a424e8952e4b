pub mod States
pub mod Nodes
