-- Document 01, "Levels and distance", with K1 of document 02: ideal levels, the range, the distance, the least word.
-- Distance and least word are over any cost of a slot and a bit; `level_cost` is the one of received levels.
use Rattle.std.specs.Prelude.{ℕ, zero, suc, ◌*◌, ◌^◌, ◌≤◌, ◌≡◌, Bool, true, ◌&&◌, ◌||◌, cond, List, map, ℤ, pos, negsuc, nat_abs, ◌-ℤ◌, leb, ltb, eqb, get_or}
use Rattle.rules.specs.Below.{sum_below, list_below}
use Rattle.rules.specs.Word.{bit, codeword, permitted}

-- "The ideal level of bit 1 is +256, of bit 0 is -256." (`pos k` is the number k, and `negsuc k` is -(k + 1).)
abbrev pub ideal : ℕ → ℤ
ideal zero = negsuc 255
ideal (suc b) = pos 256

-- the ideal levels of the codeword x, "slot i first to last"
unfoldable pub ideal_levels : ℕ → ℕ → List ℤ
ideal_levels n x = map (λ i. ideal (bit x i)) (list_below (2 ^ n) (λ i. true))

-- K1: "Levels from now on go from -2047 to 2047": the greatest magnitude of a level
abbrev pub limit : ℕ
limit = 2047

-- "Received levels are signed 32-bit numbers", by K1 "from -2047 to 2047"
abbrev pub in_range : ℤ → Bool
in_range level = leb (nat_abs level) limit

-- "in a lent slice, slot i first to last": the received level of a slot
abbrev pub level_at : List ℤ → ℕ → ℤ
level_at levels i = get_or levels i (pos 0)

-- "level - ideal", as a distance
abbrev pub gap : ℤ → ℕ → ℕ
gap level b = nat_abs (level -ℤ ideal b)

-- "(level - ideal)²"
unfoldable pub slot_cost : ℤ → ℕ → ℕ
slot_cost level b = gap level b * gap level b

-- what slot i adds to "the sum over slots" at bit b, under the received levels
abbrev pub level_cost : List ℤ → ℕ → ℕ → ℕ
level_cost levels i b = slot_cost (level_at levels i) b

-- "The distance of x is the sum over slots"
unfoldable pub distance : ℕ → (ℕ → ℕ → ℕ) → ℕ → ℕ
distance n cost x = sum_below (2 ^ n) (λ i. cost i (bit x i))

-- the distance of the codeword of d
abbrev pub word_distance : ℕ → (ℕ → ℕ → ℕ) → ℕ → ℕ
word_distance n cost d = distance n cost (codeword n d)

-- "The answer is the permitted d of least distance; among equals, the smallest d as a number."
pub record Least (n mask : ℕ) (cost : ℕ → ℕ → ℕ) (d : ℕ) : Type 0 where
  pub allowed : permitted n mask d ≡ true
  pub nearest : (e : ℕ) → permitted n mask e ≡ true → word_distance n cost d ≤ word_distance n cost e
  pub smallest : (e : ℕ) → permitted n mask e ≡ true → word_distance n cost d ≡ word_distance n cost e → d ≤ e

-- "no best word", or a best word with "its distance"
pub data Best : Type 0 where
  nothing : Best
  best : ℕ → ℕ → Best

-- "keep the word if there is no best, or if it is nearer, or equally near with smaller d"
abbrev pub keep : ℕ → ℕ → Best → Best
keep p d nothing = best p d
keep p d (best q e) = cond (ltb p q || eqb p q && ltb d e) (best p d) (best q e)

-- the best of the permitted words below m, each held against the best before it
unfoldable pub best_below : ℕ → ℕ → (ℕ → ℕ → ℕ) → ℕ → Best
best_below n mask cost zero = nothing
best_below n mask cost (suc e) =
    cond (permitted n mask e) (keep (word_distance n cost e) e (best_below n mask cost e)) (best_below n mask cost e)

-- the word that is kept, 0 where nothing is
abbrev pub word_kept : Best → ℕ
word_kept nothing = 0
word_kept (best p d) = d

-- "the permitted d of least distance; among equals, the smallest d": by listing every word of N bits in rising order
unfoldable pub least_word : ℕ → ℕ → (ℕ → ℕ → ℕ) → ℕ
least_word n mask cost = word_kept (best_below n mask cost (2 ^ (2 ^ n)))
