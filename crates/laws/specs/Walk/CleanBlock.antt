-- A clean block: where one permitted word alone costs nothing, the walk takes a visit for each group and one more
-- for each group with an unfrozen index. Over any such cost, then for the ideal levels.
-- What rests on the statements here stands in proofs/Walk/CleanBlock.antt.
use Prim.Native.Nat.{ℕ, zero, suc, ◌^◌, ◌<◌}
use Rattle.std.specs.Prelude.{◌≡◌, refl, pos}
use native.Mathlib.Omega.{arith}
use Rattle.rules.specs.Word.{bit, code_bit, codeword}
use Rattle.rules.specs.Level.{ideal, slot_cost, level_cost, ideal_levels}
use Rattle.laws.specs.Code.Matrix.{code_bit_lt, codeword-bit}
use Rattle.laws.specs.Numbers.Each.{each_at}

-- the codeword bits of w, and they alone, cost nothing
pub record Clean (n : ℕ) (cost : ℕ → ℕ → ℕ) (w : ℕ) : Type 0 where
  pub free : (i : ℕ) → i < 2 ^ n → cost i (code_bit n w i) ≡ 0
  pub alone : (i b : ℕ) → i < 2 ^ n → b < 2 → cost i b ≡ 0 → b ≡ code_bit n w i

-- a bit costs nothing at its own ideal level, and the other bit costs
ideal_free : (b : ℕ) → b < 2 → slot_cost (ideal b) b ≡ 0
unfolding slot_cost
ideal_free zero h = refl
ideal_free (suc zero) h = refl
ideal_free (suc (suc b)) h = absurd (omega arith)

ideal_alone : (a b : ℕ) → a < 2 → b < 2 → slot_cost (ideal a) b ≡ 0 → b ≡ a
unfolding slot_cost
ideal_alone zero zero h i e = refl
ideal_alone (suc zero) (suc zero) h i e = refl
ideal_alone zero (suc zero) h i e = absurd (omega arith)
ideal_alone (suc zero) zero h i e = absurd (omega arith)
ideal_alone (suc (suc a)) b h i e = absurd (omega arith)
ideal_alone zero (suc (suc b)) h i e = absurd (omega arith)
ideal_alone (suc zero) (suc (suc b)) h i e = absurd (omega arith)

-- the ideal levels of a word's codeword are clean
pub ideal-clean : (n w : ℕ) → Clean n (level_cost (ideal_levels n (codeword n w))) w
unfolding ideal_levels
ideal-clean n w = record {
  free = λ i l. rw (each_at (λ j. ideal (bit (codeword n w) j)) (pos 0) (2 ^ n) i l, codeword-bit n w i) (ideal_free (code_bit n w i) (code_bit_lt n w i));
  alone = λ i b l t z. ideal_alone (code_bit n w i) b (code_bit_lt n w i) t
      (rw (each_at (λ j. ideal (bit (codeword n w) j)) (pos 0) (2 ^ n) i l, codeword-bit n w i) at z);
}
