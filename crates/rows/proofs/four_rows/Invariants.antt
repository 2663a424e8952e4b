-- `rows::four_rows` meets its contract: before each turn the four lanes begin with the rows of their groups' first t slots.
use Prim.Native.Nat.{◌+◌, ◌%◌, ◌≤◌}
use mathlib.Core.Path.{◌≡◌}
use Rattle.rows.specs.Cells.{Shaped, Filled}
use Rattle.rows.proofs.four_rows.Given as goal

abbrev pub invariant-loop-t : goal.invariant-loop-t
invariant-loop-t l = (l.t ≤ l.size) × (l.t % 2 ≡ 0) × Shaped l.spare × Filled l.seats l.size l.t l.group (l.group + 4) l.initial.table l.table
