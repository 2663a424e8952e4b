-- `ones` as a sum of bits, and how many message bits a mask leaves.
-- (`ones-le` of lib.Count says that an index below 2 ^ n has at most n ones.)
use Rattle.std.specs.Prelude.{ℕ, zero, suc, ◌+◌, ◌/◌, ◌%◌, ◌^◌, ◌<◌, ◌≡◌, refl, cond, eqb}
use Rattle.std.proofs.Common.{ap, ◌∙◌, div-one, mul-one, mod-lt, one-add, arith, pow_pos}
use Rattle.std.proofs.Math.Nat.{two-pow-succ}
use Rattle.std.specs.Int.Count.{ones, ones_step}
use Rattle.std.proofs.Math.Arith.{lt-one}
use Rattle.rules.specs.Below.{sum_below, count_below}
use Rattle.rules.specs.Word.{bit, unfrozen, message_bits}
use Rattle.laws.specs.Numbers.Sums.{sum_cong, sum-add, sum-const, sum_split}
use Rattle.laws.specs.Numbers.Bits.{bit_lt_two, bit-div, bit-mod}

-- the ones of a number of m bits are the sum of its bits
pub ones-sum : (m w : ℕ) → w < 2 ^ m → ones w ≡ sum_below m (bit w)
unfolding ones sum_below
ones-sum zero w h = ap ones (lt-one h)
ones-sum (suc m) w h =
    let low : bit w 0 ≡ w % 2 = rw (div-one w) in
    let rest : ones (w / 2) ≡ sum_below m (λ i. bit w (1 + i)) =
    ones-sum m (w / 2) (omega (arith, two-pow-succ m)) ∙ sum_cong m (λ i l. bit-div w 1 i) in
    let parts : sum_below (suc m) (bit w) ≡ 0 + bit w 0 + sum_below m (λ i. bit w (1 + i)) = rw one-add at (sum_split 1 m (bit w)) in
    omega (arith, ones_step w)

zero_or_one : (b : ℕ) → b < 2 → cond (eqb b 0) 1 0 + b ≡ 1
zero_or_one zero l = refl
zero_or_one (suc zero) l = refl
zero_or_one (suc (suc b)) l = absurd (omega arith)

-- K and the mask's ones below 2 ^ n make up 2 ^ n
pub bits-and-ones : (n mask : ℕ) → message_bits n mask + ones (mask % 2 ^ (2 ^ n)) ≡ 2 ^ n
unfolding count_below
bits-and-ones n mask =
    rw (ones-sum (2 ^ n) (mask % 2 ^ (2 ^ n)) (mod-lt mask (pow_pos (2 ^ n))), ← sum-add (2 ^ n) _ (bit (mask % 2 ^ (2 ^ n))))
    (sum_cong (2 ^ n) one ∙ sum-const (2 ^ n) 1 ∙ mul-one (2 ^ n))
  where
    one : (i : ℕ) → i < 2 ^ n → cond (unfrozen mask i) 1 0 + bit (mask % 2 ^ (2 ^ n)) i ≡ 1
    one i l = rw (bit-mod mask (2 ^ n) i l) (zero_or_one (bit mask i) (bit_lt_two mask i))
