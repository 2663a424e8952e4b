-- The guard: every other permitted word is farther than the one sent by 1024 times what is left of the guard, so that below it the
-- least word is the word sent; and at the guard, for every mask, some block has another least word.
pub mod Fewest
pub mod LeastBelow
pub mod Margin
pub mod ReedMuller
pub mod SentWord
pub mod Tight
