-- The walk: branch and bound over any tree loses nothing and counts its visits; the groups of a folding decide the codeword from
-- the last group on, so that the leaves are the permitted words at their distances; hence the walk finds the least word.
pub mod Allowance
pub mod BranchAndBound
pub mod Branches
pub mod Candidates
pub mod CleanBlock
pub mod Completions
pub mod FillingCount
pub mod Fillings
pub mod GroupSizes
pub mod Groups
pub mod Patterns
