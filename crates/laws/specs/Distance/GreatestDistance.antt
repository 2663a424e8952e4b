-- The greatest distance: with every level in range no slot costs more than (limit + 256)², so that the distance of
-- any word is at most N times that; and it is reached.
use Rattle.std.specs.Prelude.{ℕ, zero, suc, ◌+◌, ◌*◌, ◌^◌, ◌≤◌, ◌<◌, ◌≡◌, refl, true, List, ℤ, pos, negsuc, nat_abs}
use Rattle.std.proofs.Common.{◌∙◌, le_trans, le_of_eq, mul-le-mul, arith, leb-true}
use Rattle.std.proofs.Math.IntN.{sub_ℕ}
use Rattle.rules.specs.Word.{bit}
use Rattle.rules.specs.Level.{limit, in_range, level_at, gap, slot_cost, level_cost, distance}
use Rattle.laws.specs.Numbers.Apart.{abs_sub}
use Rattle.laws.specs.Numbers.Bits.{bit-zero}
use Rattle.laws.specs.Numbers.Sums.{sum_cong, sum-le, sum-const}

sub-le : (a b : ℕ) → nat_abs (sub_ℕ a b) ≤ a + b
sub-le a b = rw (abs_sub a b) (omega arith)

-- a level is no farther from an ideal level than from 0 and on by 256
gap-le : (level : ℤ) (b : ℕ) → gap level b ≤ nat_abs level + 256
gap-le (pos m) zero = omega arith
gap-le (pos m) (suc b) = sub-le m 256
gap-le (negsuc m) zero = le_trans (sub-le 256 (suc m)) (omega arith)
gap-le (negsuc m) (suc b) = omega arith

-- the cost of a slot whose level is in range
pub slot_greatest : (level : ℤ) (b : ℕ) → in_range level ≡ true → slot_cost level b ≤ (limit + 256) * (limit + 256)
unfolding slot_cost
slot_greatest level b h =
    let near : gap level b ≤ limit + 256 = le_trans (gap-le level b) (omega (arith, leb-true (nat_abs level) limit h)) in mul-le-mul near near

-- the distance of any word from levels in range
pub distance_greatest : (n : ℕ) (levels : List ℤ) (x : ℕ) → ((i : ℕ) → i < 2 ^ n → in_range (level_at levels i) ≡ true)
    → distance n (level_cost levels) x ≤ 2 ^ n * ((limit + 256) * (limit + 256))
unfolding distance
distance_greatest n levels x h =
    le_trans (sum-le (2 ^ n) (λ i l. slot_greatest (level_at levels i) (bit x i) (h i l))) (le_of_eq (sum-const (2 ^ n) ((limit + 256) * (limit + 256))))

-- with every level at the limit, the word 0 has that distance
pub greatest_reached : (n : ℕ) (levels : List ℤ) → ((i : ℕ) → i < 2 ^ n → level_at levels i ≡ pos limit)
    → distance n (level_cost levels) 0 ≡ 2 ^ n * ((limit + 256) * (limit + 256))
unfolding distance slot_cost
greatest_reached n levels h =
    sum_cong (2 ^ n) (λ i l. rw (h i l, bit-zero i)) ∙ sum-const (2 ^ n) ((limit + 256) * (limit + 256))

-- K1: "The greatest distance at n = 6 becomes 339,443,776."
pub greatest_at_six : 2 ^ 6 * ((limit + 256) * (limit + 256)) ≡ 339443776
greatest_at_six = refl
