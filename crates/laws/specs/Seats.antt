-- Seats: the indices group after group. In seat order a group's bits are neighbours, its candidates are the entries of a sorted
-- row, and a pattern changes the word in one way whatever was decided before. So the code's walk over rows is the rules' walk.
pub mod BlankBlocks
pub mod Blocks
pub mod Copied
pub mod Decided
pub mod SeatSums
pub mod SeatWords
pub mod SeatedBlocks
pub mod SeatedDown
pub mod SeatedFillings
pub mod SeatedRow
pub mod SeatedWalk
pub mod Seats
