pub mod CleanBlock
pub mod Completions
pub mod IdealVisits
pub mod LeastByWalk
pub mod Patterns
