-- `level::cost::slot` meets its contract.
use Prim.Native.Nat.{ℕ, ◌*◌}
use mathlib.Core.Path.{◌∙◌, ap, ap₂}
use mathlib.Core.Bool.{cond}
use lib.IntN.{ℤ, pos, nat_abs}
use lib.Signed.{lt_z}
use mir.Syntax.{w32}
use mir.ValLaws.{to_z-of_z}
use Rattle.laws.specs.Distance.Excess.{beside, nearest}
use Rattle.level.proofs.Tests.{picked-zero, picked_one}
use Rattle.level.proofs.cost.slot.Goals as goal

pub returns : goal.returns
unfolding nearest
returns c =
    let z = c.args.level in
    let read = to_z-of_z w32 z c.ranges.level in
    let m = c.magnitude-m.ensures ∙ ap nat_abs read in
    let near = c.abs_diff.ensures ∙ ap beside m in (
      c.square.ensures ∙ ap₂ ◌*◌ near near,
      c.select_unpredictable.ensures ∙ ap₂ (λ (y : ℤ) (x : ℕ). cond (lt_z (pos 0) y) x 0) read m ∙ picked-zero z,
      c.select_unpredictable-2.ensures ∙ ap₂ (λ (y : ℤ) (x : ℕ). cond (lt_z y (pos 0)) x 0) read m ∙ picked_one z,
    )
