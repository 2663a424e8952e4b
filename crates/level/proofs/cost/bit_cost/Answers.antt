-- `level::cost::bit_cost` meets its contract: the cost of any bit of any 32-bit number is below 2^63.
use Prim.Native.Nat.{ℕ, zero, suc, ◌^◌, ◌≤◌}
use mathlib.Core.Path.{◌≡◌, refl, ◌∙◌}
use mathlib.Core.Bool.{cond}
use native.Mathlib.Nat.{mul-le-mul}
use native.Mathlib.Omega.{arith}
use borrow.Author.Tests.{ne_eqb}
use lib.Dec.{eqb}
use lib.IntN.{ℤ, pos, negsuc, nat_abs}
use mir.Syntax.{w32}
use mir.Val.{SFits}
use mir.ValLaws.{to_z-of_z}
use Rattle.laws.specs.Distance.Excess.{beside, nearest, excess, cost_split}
use Rattle.level.proofs.Tests.{magnitude_le}
use Rattle.level.proofs.cost.bit_cost.Goals as goal

-- the nearer bit's cost of a 32-bit number
nearest-small : (z : ℤ) → SFits w32 z → nearest z ≤ 2 ^ 62
unfolding nearest
nearest-small z f =
    let near : beside (nat_abs z) ≤ 2 ^ 31 = omega (arith, magnitude_le z f) in mul-le-mul near near

-- the excess of every bit but 0 is that of bit 1
excess-picked : (z : ℤ) (b : ℕ) → cond (eqb b 0) (excess z 0) (excess z 1) ≡ excess z b
unfolding excess
excess-picked z zero = refl
excess-picked (pos m) (suc b) = rw (ne_eqb (suc b) 0 (λ e. omega arith))
excess-picked (negsuc m) (suc b) = rw (ne_eqb (suc b) 0 (λ e. omega arith))

pub overflow_add-result : goal.overflow_add-result
overflow_add-result c =
    let z = c.args.level in
    let near : c.slot-s.result.nearest ≤ 2 ^ 62 =
    rw (c.slot-s.ensures.0, to_z-of_z w32 z c.ranges.level) (nearest-small z c.ranges.level) in
    record { fits = omega arith }

pub returns : goal.returns
returns c =
    let z = c.args.level in
    let b = c.args.b in
    let near = c.slot-s.ensures in
    let pick = c.from.ensures ∙ c.select_unpredictable.ensures in
    rw (pick, near.0, near.1, near.2, to_z-of_z w32 z c.ranges.level, excess-picked z b, cost_split z b)
