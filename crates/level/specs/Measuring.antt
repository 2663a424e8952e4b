-- How contracts read the distance of a word from the levels of a block: refusal 6 with the first slot out of range, or the distance.
use Rattle.std.specs.Prelude.{ℕ, ◌^◌, ◌≤◌, min, ◌≡◌, not, List, [], ◌∷◌, ℤ, length, Result, Ok, Err}
use Rattle.std.proofs.Math.Nat.{min-eq_left}
use Rattle.std.proofs.Common.{pow_mono}
use Rattle.rules.specs.Below.{sum_below, first_below}
use Rattle.rules.specs.Word.{bit}
use Rattle.rules.specs.Level.{in_range, level_at, level_cost, distance}
use Rattle.rules.specs.Refusals.{Answer, refused, done, answer, refuse_at, out_of_range, largest}
use Rattle.level.specs.declared.OutOfRange.{OutOfRange}

-- the distance, or refusal 6, which names the slot
abbrev pub measured_of : Result ℕ OutOfRange → Answer ℕ
measured_of (Ok d) = done d
measured_of (Err out) = refused (record { number = 6; values = out.slot ∷ [] })

-- over the first so many slots: refusal 6, or the sum of the costs of the word's bits
unfoldable pub measured_below : ℕ → List ℤ → ℕ → Answer ℕ
measured_below slots levels x =
    answer (refuse_at 6 (first_below slots (λ i. not (in_range (level_at levels i)))) ∷ []) (sum_below slots (λ i. level_cost levels i (bit x i)))

-- over the slots of a slice; those past the largest block do not count
abbrev pub measured : List ℤ → ℕ → Answer ℕ
measured levels x = measured_below (min (length levels) (2 ^ largest)) levels x

-- of a slice of N levels: refusal 6, or the distance in document 01's sense
pub measured_block : (n : ℕ) → n ≤ largest → (levels : List ℤ) → length levels ≡ 2 ^ n → (x : ℕ)
    → measured levels x ≡ answer (out_of_range n levels ∷ []) (distance n (level_cost levels) x)
unfolding measured_below distance
measured_block n small levels whole x = rw (whole, min-eq_left (pow_mono small))
