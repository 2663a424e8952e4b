-- The guard cannot be raised: a single bit sent, its ones moved to level 0, and word 0 is the least word.
use Prim.Native.Nat.{ℕ, zero, suc, ◌*◌, ◌^◌, ◌≤◌, ◌<◌, zero-le}
use Rattle.std.specs.Prelude.{◌≡◌, refl, true, pos, length}
use Rattle.std.proofs.Common.{◌∙◌, arith}
use Rattle.std.proofs.Math.Nat.{le_refl}
use Rattle.rules.specs.Below.{sum_below}
use Rattle.rules.specs.Word.{bit, codeword}
use Rattle.rules.specs.Level.{in_range, level_at, gap, slot_cost, level_cost, distance, Least}
use Rattle.laws.specs.Code.Matrix.{codeword-zero}
use Rattle.laws.specs.Code.Permitted.{permitted-zero}
use Rattle.laws.specs.Code.Weight.{weight}
use Rattle.laws.specs.Guard.Tight.{halfway, halfway_levels}
use Rattle.laws.specs.Numbers.Bits.{bit-zero, bit_lt_two}
use Rattle.laws.specs.Numbers.Each.{each-length, each_at}
use Rattle.laws.specs.Numbers.Sums.{sum-le, sum-mul, sum_cong}

module _ (n x : ℕ) where
  -- there is a level for each slot
  pub halfway-length : length (halfway_levels n x) ≡ 2 ^ n
  unfolding halfway_levels
  halfway-length = each-length (λ i. halfway (bit x i)) (2 ^ n)

  halfway_at : (i : ℕ) → i < 2 ^ n → level_at (halfway_levels n x) i ≡ halfway (bit x i)
  unfolding halfway_levels
  halfway_at i l = each_at (λ k. halfway (bit x k)) (pos 0) (2 ^ n) i l

  -- each level is in range
  pub halfway_range : (i : ℕ) → i < 2 ^ n → in_range (level_at (halfway_levels n x) i) ≡ true
  halfway_range i l = rw (halfway_at i l) (go (bit x i))
    where
      go : (b : ℕ) → in_range (halfway b) ≡ true
      go zero = refl
      go (suc b) = refl

  -- in all the levels are moved by 256 for each one of x
  pub halfway-moved : sum_below (2 ^ n) (λ i. gap (level_at (halfway_levels n x) i) (bit x i)) ≡ 256 * weight n x
  halfway-moved = sum_cong (2 ^ n) (λ i l. rw (halfway_at i l) (go (bit x i) (bit_lt_two x i))) ∙ sum-mul (2 ^ n) 256 (bit x)
    where
      go : (b : ℕ) → b < 2 → gap (halfway b) b ≡ 256 * b
      go zero h = refl
      go (suc zero) h = refl
      go (suc (suc b)) h = absurd (omega arith)

  -- word 0 is the least word at these levels, whatever is frozen
  pub halfway_least : (mask : ℕ) → Least n mask (level_cost (halfway_levels n x)) 0
  unfolding distance slot_cost
  halfway_least mask = record {
    allowed = permitted-zero n mask;
    nearest = λ e p. sum-le (2 ^ n) (λ i l. slot i l (bit (codeword n e) i) (bit_lt_two (codeword n e) i));
    smallest = λ e p q. zero-le;
  }
    where
      least : (a b : ℕ) → b < 2 → slot_cost (halfway a) 0 ≤ slot_cost (halfway a) b
      least zero b h = zero-le
      least (suc a) zero h = le_refl 65536
      least (suc a) (suc zero) h = le_refl 65536
      least (suc a) (suc (suc b)) h = absurd (omega arith)

      slot : (i : ℕ) → i < 2 ^ n → (b : ℕ) → b < 2
          → slot_cost (level_at (halfway_levels n x) i) (bit (codeword n 0) i) ≤ slot_cost (level_at (halfway_levels n x) i) b
      slot i l b h = rw (halfway_at i l, codeword-zero n, bit-zero i) (least (bit x i) b h)
