-- What a level costs at each bit: the cost of the nearer bit, and at the farther bit 1024 times the level's magnitude more; and so
-- for a whole distance.
-- (1024 is four times 256, the ideal level's magnitude, and no limit.)
-- What rests on the statements here stands in proofs/Distance/Excess.antt.
use Rattle.std.specs.Prelude.{ℕ, zero, suc, ◌+◌, ◌-◌, ◌*◌, ◌≤◌, min, ◌≡◌, refl, true, ℤ, pos, negsuc, nat_abs}
use Rattle.std.proofs.Common.{sym, ap, ap₂, ◌∙◌, le_trans, add-zero, mul-add, mul_comm, arith, leb-true}
use Rattle.std.proofs.Math.Decide.{dec_le}
use Rattle.rules.specs.Level.{limit, in_range, gap, slot_cost}
use Rattle.laws.specs.Numbers.Apart.{abs_sub}

-- how far a magnitude is from 256, that of the ideal levels
abbrev pub beside : ℕ → ℕ
beside m = m - 256 + (256 - m)

-- the cost of the nearer bit, whose ideal level has the level's sign: (magnitude - 256)²
unfoldable pub nearest : ℤ → ℕ
nearest level = beside (nat_abs level) * beside (nat_abs level)

-- by how many times 1024 the cost of a bit exceeds that of the nearer bit: the magnitude at the farther bit, 0 at the nearer
unfoldable pub excess : ℤ → ℕ → ℕ
excess (pos m) zero = m
excess (pos m) (suc b) = 0
excess (negsuc m) zero = 0
excess (negsuc m) (suc b) = suc m

-- (m + 256)² = (m - 256)² + 1024 m
farther : (m : ℕ) → (m + 256) * (m + 256) ≡ beside m * beside m + 1024 * m
farther m = go (dec_le m 256)
  where
    low : (a : ℕ) → a + m ≡ 256 → (m + 256) * (m + 256) ≡ a * a + 1024 * m
    low a e = omega (arith, mul-add a a m, mul-add m a m, mul_comm a m, ap (λ (x : ℕ). a * x) e, ap (λ (x : ℕ). m * x) e)

    high : (a : ℕ) → m ≡ a + 256 → (m + 256) * (m + 256) ≡ a * a + 1024 * m
    high a e = rw e (omega arith)

    go : Dec (m ≤ 256) → (m + 256) * (m + 256) ≡ beside m * beside m + 1024 * m
    go (yes l) = low (beside m) (omega arith)
    go (no g) = high (beside m) (omega arith)

-- a square as the nearer bit's cost, with nothing more
nearer : (a b : ℕ) → a ≡ b → a * a ≡ b * b + 1024 * 0
nearer a b e = ap₂ ◌*◌ e e ∙ sym (add-zero (b * b))

-- the cost of a bit is that of the nearer bit and 1024 times its excess
pub cost_split : (level : ℤ) (b : ℕ) → slot_cost level b ≡ nearest level + 1024 * excess level b
unfolding slot_cost nearest excess
cost_split (pos m) zero = farther m
cost_split (pos m) (suc b) = nearer _ _ (abs_sub m 256)
cost_split (negsuc m) zero = nearer _ _ (abs_sub 256 (suc m) ∙ omega arith)
cost_split (negsuc m) (suc b) = let e : gap (negsuc m) 1 ≡ suc m + 256 = omega arith in ap₂ ◌*◌ e e ∙ farther (suc m)

-- the excess is at most the magnitude
pub excess-le : (level : ℤ) (b : ℕ) → excess level b ≤ nat_abs level
unfolding excess
excess-le (pos m) zero = omega arith
excess-le (pos m) (suc b) = omega arith
excess-le (negsuc m) zero = omega arith
excess-le (negsuc m) (suc b) = omega arith

-- of both bits one is the nearer
pub one_nearer : (level : ℤ) → min (excess level 0) (excess level 1) ≡ 0
unfolding excess
one_nearer (pos m) = omega arith
one_nearer (negsuc m) = omega arith

-- in range, the excess is at most the limit
pub excess_greatest : (level : ℤ) (b : ℕ) → in_range level ≡ true → excess level b ≤ limit
excess_greatest level b h = le_trans (excess-le level b) (leb-true (nat_abs level) limit h)

-- every bit that is not 0 is the bit 1
pub excess_one_bit : (level : ℤ) (b : ℕ) → excess level (suc b) ≡ excess level 1
unfolding excess
excess_one_bit (pos m) b = refl
excess_one_bit (negsuc m) b = refl
