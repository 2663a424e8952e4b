-- The distance as source document 000 measures it. Its equation 5 takes the squared norm of y - x, where x is a bit, 0 or 1,
-- and y is the level on the scale on which the ideal levels are 0 and 1: y = (level + 256) / 512. So 512 · (y - x) is
-- level + 256 - 512 · x, and 512² times the squared norm is the sum of the squares of these whole numbers. It is the distance,
-- so that the least distance and the least norm are at the same word.
use Rattle.std.specs.Prelude.{ℕ, zero, suc, ◌*◌, ◌^◌, ◌≤◌, ◌<◌, ◌≡◌, ◌↔◌, List, ℤ, pos, negsuc, nat_abs, ◌+ℤ◌}
use Rattle.std.proofs.Common.{sym, ap, arith}
use Rattle.std.proofs.Math.IntN.{+ℤ_idr, +ℤ_assoc}
use Rattle.rules.specs.Word.{bit, codeword}
use Rattle.rules.specs.Level.{level_at, gap, slot_cost, level_cost, distance, word_distance}
use Rattle.laws.specs.Distance.SquaredNorm.{scaled, scaled_norm}
use Rattle.laws.specs.Numbers.Bits.{bit_lt_two}
use Rattle.laws.specs.Numbers.Sums.{sum_cong}

-- the level less a bit's ideal level is 512 · (y - b)
pub gap-scaled : (level : ℤ) (b : ℕ) → b < 2 → gap level b ≡ scaled level b
gap-scaled level zero l = ap nat_abs (sym (+ℤ_idr (level +ℤ pos 256)))
gap-scaled level (suc zero) l = ap nat_abs (sym (+ℤ_assoc level (pos 256) (negsuc 511)))
gap-scaled level (suc (suc b)) l = absurd (omega arith)

-- so the cost of a slot is that square
pub cost_scaled : (level : ℤ) (b : ℕ) → b < 2 → slot_cost level b ≡ scaled level b * scaled level b
unfolding slot_cost
cost_scaled level b l = ap (λ (g : ℕ). g * g) (gap-scaled level b l)

-- and the distance is 512² times the squared norm
pub distance_norm : (n : ℕ) (levels : List ℤ) (x : ℕ) → distance n (level_cost levels) x ≡ scaled_norm n levels x
unfolding distance scaled_norm
distance_norm n levels x = sum_cong (2 ^ n) (λ i l. cost_scaled (level_at levels i) (bit x i) (bit_lt_two x i))

-- a word is no farther than another exactly when its norm is no greater
pub norm_order : (n : ℕ) (levels : List ℤ) (d e : ℕ)
    → (word_distance n (level_cost levels) d ≤ word_distance n (level_cost levels) e)
    ↔ (scaled_norm n levels (codeword n d) ≤ scaled_norm n levels (codeword n e))
norm_order n levels d e = rw (distance_norm n levels (codeword n d), distance_norm n levels (codeword n e)) (λ h. h, λ h. h)
