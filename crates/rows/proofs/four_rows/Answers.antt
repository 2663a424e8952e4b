-- `rows::four_rows` meets its contract: before each turn the four lanes begin with the rows of their groups' first t slots.
use Prim.Native.Nat.{suc, ◌+◌}
use mathlib.Core.Path.{◌≡◌}
use native.Mathlib.Omega.{arith}
use Rattle.rows.proofs.Filling.{filled_kept}
use Rattle.rows.proofs.Places.{size_even}
use Rattle.rows.proofs.four_rows.Goals as goal

pub add_slots-requires-in-loop-t-clause-slots : goal.add_slots-requires-in-loop-t-clause-slots
add_slots-requires-in-loop-t-clause-slots c =
    let l = c.loop-t in
    (omega (arith, c.loop-t-test.true, l.invariant.1, size_even c.requires.slots.1 c.requires.slots.0), c.requires.slots.1)

pub returns-2-clause-rows : goal.returns-2-clause-rows
returns-2-clause-rows c =
    let l = c.loop-t in
    let all : suc (l.t + 1) ≡ c.args.size = omega (arith, c.loop-t-test.true, l.invariant.1, size_even c.requires.slots.1 c.requires.slots.0) in
    filled_kept c.first_rows.ensures.kept (filled_kept l.invariant.3.kept (rw all at c.add_slots-in-loop-t.ensures))
