-- How far two numbers are apart, from their difference.
use Rattle.std.specs.Prelude.{ℕ, suc, ◌+◌, ◌-◌, ◌≡◌, refl, Bool, true, false, cond, pos, negsuc, nat_abs, ltb}
use Rattle.std.proofs.Common.{arith, ltb-true, ltb-false}
use Rattle.std.proofs.Math.IntN.{sub_ℕ}

-- one of the two remainders is 0, and the other is the difference without its sign
pub abs_sub : (a b : ℕ) → nat_abs (sub_ℕ a b) ≡ a - b + (b - a)
abs_sub a b = go (ltb a b) refl
  where
    go : (t : Bool) → ltb a b ≡ t → nat_abs (cond t (negsuc (b - suc a)) (pos (a - b))) ≡ a - b + (b - a)
    go true e = omega (arith, ltb-true a b e)
    go false e = omega (arith, ltb-false a b e)
