-- `listing::rule::part` meets its contract: the level is in range, and so the gap is no larger than the sum of the two magnitudes.
use Rattle.std.proofs.Common.{◌+◌, ◌≤◌, nat_abs, ℤ, ◌-ℤ◌, w32, to_z, of_z, arith}
use native.Mathlib.Nat.{mul-le-mul}
use mir.ValLaws.{to_z-of_z}
use Rattle.rules.specs.Level.{limit}
use Rattle.listing.proofs.rule.part.Goals as goal

gap_le : (a b : ℤ) → nat_abs a ≤ limit → nat_abs b ≤ 256 → nat_abs (a -ℤ b) ≤ limit + 256
gap_le a b low high = grind arith

pub returns : goal.returns
returns c =
    let z : ℤ = to_z w32 (of_z w32 c.args.level) in
    let y : ℤ = to_z w32 (of_z w32 c.args.ideal) in
    let level : nat_abs z ≤ limit = omega (arith, c.if-unsigned_abs.false, c.unsigned_abs.ensures.value, c.unsigned_abs-2.ensures.value) in
    let ideal : nat_abs y ≤ 256 = rw (to_z-of_z w32 c.args.ideal c.ranges.ideal) c.requires in
    let gap : c.abs_diff-gap.result ≤ limit + 256 = omega (arith, c.abs_diff-gap.ensures, gap_le z y level ideal) in
    omega (arith, mul-le-mul gap gap)
