-- A word's bits over the unfrozen indices: from where each comes, where it goes, and what all make.
use Rattle.std.specs.Prelude.{ℕ, ◌≡◌, Bool, cond}
use Rattle.rules.specs.Word.{spread, gather}

-- what a closure answers of a place and its index, by what it may answer: a turn that packs goes from the index to the place, and one
-- that spreads from the place to the index
abbrev pub Goes : (ℕ → ℕ → ℕ × ℕ → Type 0) → Bool → Type 0
Goes answers packs = (place index : ℕ) (ends : ℕ × ℕ) → answers place index ends → (ends.0 ≡ cond packs index place) × (ends.1 ≡ cond packs place index)

-- the message of an information word, or the information word of a message
abbrev pub turned_word : Bool → ℕ → ℕ → ℕ → ℕ
turned_word packs n mask w = cond packs (gather n mask w) (spread n mask w)
