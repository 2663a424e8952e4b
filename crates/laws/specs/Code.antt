-- The code: the matrix map is linear and its own inverse, messages and words undo each other, the codeword of a word whose
-- ones stand at indices of W ones or more has at least 2 ^ W ones, and copies of a word at the ones of another fit in a word
-- where the ones of both lie in disjoint index bits.
pub mod Disjoint
pub mod Matrix
pub mod Message
pub mod Permitted
pub mod Weight
