-- `rows::rows` meets its contract: before each turn the groups before k have their rows.
use Prim.Native.Nat.{◌+◌, ◌<◌, ◌≤◌, min}
use mathlib.Core.Path.{◌≡◌}
use native.Mathlib.Nat.{le_refl}
use native.Mathlib.Omega.{arith}
use Rattle.rows.proofs.Filling.{built_more, rows_right}
use Rattle.rows.proofs.Places.{four_sized}
use Rattle.rows.proofs.rows.Goals as goal

pub returns-then-size-le2 : goal.returns-then-size-le2
returns-then-size-le2 c =
    let all : min c.args.size 2 ≡ c.args.size = omega (arith, c.if-size-le2.true) in
    rows_right _ _ c.requires (le_refl c.args.groups) (rw all at c.first_rows.ensures.built)

pub four_rows-requires-clause-slots : goal.four_rows-requires-clause-slots
four_rows-requires-clause-slots c =
    let l = c.loop-k in
    let few : 2 < c.args.size = omega (arith, c.if-size-le2.false) in
    (few, four_sized c.requires few c.loop-k-test.true l.invariant.0)

pub loop-k-preserved : goal.loop-k-preserved
loop-k-preserved c =
    let l = c.loop-k in
    let rows = c.four_rows.ensures in
    (omega (arith, l.invariant.0), rows.spare, rows.rows.shaped, built_more rows.rows l.invariant.3)

pub returns-else-size-le2 : goal.returns-else-size-le2
returns-else-size-le2 c = rows_right _ _ c.requires c.loop-k-test.false c.loop-k.invariant.3

pub returns-else-size-le2-2 : goal.returns-else-size-le2-2
returns-else-size-le2-2 c =
    let all : c.args.groups ≤ c.loop-k.k + 4 = omega arith in
    rows_right _ _ c.requires all (built_more c.four_rows.ensures.rows c.loop-k.invariant.3)
