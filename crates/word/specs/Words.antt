-- How contracts read a word, and what a word has room for.
use Rattle.std.specs.Prelude.{ℕ, min, ◌≡◌, refl, List, get_or}
use Rattle.rules.specs.Refusals.{largest}
use Rattle.word.specs.declared.Word.{Word}

-- the number that a word stands for; only this crate's proofs open it
unfoldable pub word_of : Word → ℕ
word_of w = w.bits

-- what a list of words has past its end
abbrev pub past : Word
past = record { bits = 0 }

-- the number at a place of a list of words, 0 past the list
abbrev pub word_at : List Word → ℕ → ℕ
word_at l i = word_of (get_or l i past)

-- what a list of words has past its end stands for 0
pub word_past : word_of past ≡ 0
unfolding word_of
word_past = refl

-- an n above the largest counts as the largest, so that a function of an n has an answer for every n
abbrev pub size_of : ℕ → ℕ
size_of n = min n largest
