-- The margin: how much farther every other permitted word is than the one sent, by how far the slots were moved.
-- Over any cost and any measure of moving.
use Rattle.std.specs.Prelude.{ℕ, zero, suc, ◌+◌, ◌-◌, ◌*◌, ◌%◌, ◌^◌, ◌≤◌, ◌<◌, ◌≡◌, refl, ◌≢◌, true, ℤ, pos, negsuc}
use Rattle.std.proofs.Common.{sym, ap, ◌∙◌, add_comm, arith}
use Rattle.std.proofs.Math.Option.{some}
use Rattle.std.proofs.Math.Decide.{ℕ_discrete, dec_le}
use Rattle.std.specs.Int.Bits.{bit_xor, xor_zero_l}
use Rattle.rules.specs.Below.{sum_below}
use Rattle.rules.specs.Word.{bit, codeword, permitted}
use Rattle.rules.specs.Level.{gap, slot_cost, distance, word_distance}
use Rattle.rules.specs.Guard.{guard_of}
use Rattle.laws.proofs.Codewords.Weight.{weight_least}
use Rattle.laws.specs.Code.Matrix.{codeword-xor}
use Rattle.laws.specs.Code.Permitted.{permitted-lt, permitted-xor, permitted_at}
use Rattle.laws.specs.Code.Weight.{weight}
use Rattle.laws.specs.Guard.Fewest.{guard_fewest}
use Rattle.laws.specs.Guard.Margin.{Apart, Gaps, before, between, beyond, moved, square}
use Rattle.laws.specs.Numbers.Apart.{abs_sub}
use Rattle.laws.specs.Numbers.Bits.{bit-within, bit-xor, bit_lt_two, xor_twice}
use Rattle.laws.specs.Numbers.Sums.{sum-add, sum-le, sum-mul}

-- the margin between two words, by the slots where they differ
distance_apart : (n : ℕ) (cost : ℕ → ℕ → ℕ) (moved : ℕ → ℕ) (x y : ℕ) → Apart n cost moved x
    → distance n cost x + 262144 * weight n (bit_xor x y) ≤ distance n cost y + 1024 * sum_below (2 ^ n) moved
unfolding distance
distance_apart n cost moved x y h =
    rw (
      ← sum-mul (2 ^ n) 262144 (bit (bit_xor x y)),
      ← sum-mul (2 ^ n) 1024 moved,
      ← sum-add (2 ^ n) (λ i. cost i (bit x i)) (λ i. 262144 * bit (bit_xor x y) i),
      ← sum-add (2 ^ n) (λ i. cost i (bit y i)) (λ i. 1024 * moved i),
    )
    (sum-le (2 ^ n) slot)
  where
    slot : (i : ℕ) → i < 2 ^ n → cost i (bit x i) + 262144 * bit (bit_xor x y) i ≤ cost i (bit y i) + 1024 * moved i
    slot i l = rw (bit-xor x y i) (go (ℕ_discrete (bit y i) (bit x i)))
      where
        go : Dec (bit y i ≡ bit x i) → cost i (bit x i) + 262144 * ((bit x i + bit y i) % 2) ≤ cost i (bit y i) + 1024 * moved i
        go (yes e) = rw e (omega arith)
        go (no z) = omega (arith, h i l (bit y i) (bit_lt_two y i) z)

-- every other permitted word is farther than the word sent by 1024 × (guard - moved)
pub margin : (n mask g : ℕ) → guard_of n mask ≡ some g → (cost : ℕ → ℕ → ℕ) (moved : ℕ → ℕ) (s d : ℕ)
    → permitted n mask s ≡ true → permitted n mask d ≡ true → d ≢ s → Apart n cost moved (codeword n s)
    → word_distance n cost s + 1024 * g ≤ word_distance n cost d + 1024 * sum_below (2 ^ n) moved
margin n mask g e cost moved s d ps pd z h =
    let p : permitted n mask (bit_xor s d) ≡ true = permitted-xor n mask s d ps pd in
    let r = guard_fewest n mask g e in
    let heavy = weight_least n r.0 (bit_xor s d) (permitted-lt n mask (bit_xor s d) p) (λ q. z (apart q))
    (λ i b. r.2.least i (bit-within (permitted-lt n mask (bit_xor s d) p) b) (permitted_at n mask (bit_xor s d) p i b)) in
    omega (arith, r.1, rw (codeword-xor n s d) at heavy, distance_apart n cost moved (codeword n s) (codeword n d) h)
  where
    apart : bit_xor s d ≡ 0 → d ≡ s
    apart q = sym (xor_zero_l d) ∙ ap (λ (x : ℕ). bit_xor x d) (sym q) ∙ xor_twice s d

swapped : {p q : ℕ} → Gaps p q → Gaps q p
swapped (beyond e) = before e
swapped (before e) = beyond e
swapped {p} {q} (between e) = between (add_comm q p ∙ e)

-- a level lies beyond both ideal levels or between them
gaps : (level : ℤ) → Gaps (gap level 0) (gap level 1)
gaps (pos m) = rw (abs_sub m 256) (go (dec_le m 256))
  where
    go : Dec (m ≤ 256) → Gaps (m + 256) (m - 256 + (256 - m))
    go (yes l) = between (omega arith)
    go (no g) = beyond (omega arith)
gaps (negsuc m) = rw (abs_sub 256 (suc m)) (go (dec_le (suc m) 256))
  where
    go : Dec (suc m ≤ 256) → Gaps (256 - suc m + (suc m - 256)) (suc (suc (m + 255)))
    go (yes l) = between (omega arith)
    go (no g) = before (omega arith)

-- (level - ideal b)² is (level - ideal s)² + 1024 × (256 ± moved)
pub slot_apart : (level : ℤ) (s b : ℕ) → s < 2 → b < 2 → b ≢ s → slot_cost level s + 1024 * 256 ≤ slot_cost level b + 1024 * gap level s
unfolding slot_cost
slot_apart level zero zero hs hb z = absurd (z refl)
slot_apart level zero (suc zero) hs hb z = square (gap level 0) (gap level 1) (gaps level)
slot_apart level (suc zero) zero hs hb z = square (gap level 1) (gap level 0) (swapped (gaps level))
slot_apart level (suc zero) (suc zero) hs hb z = absurd (z refl)
slot_apart level zero (suc (suc b)) hs hb z = absurd (omega arith)
slot_apart level (suc zero) (suc (suc b)) hs hb z = absurd (omega arith)
slot_apart level (suc (suc s)) b hs hb z = absurd (omega arith)
