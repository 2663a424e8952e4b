-- `rows::rows` meets its contract: before each turn the groups before k have their rows.
use Prim.Native.Nat.{◌%◌}
use mathlib.Core.Path.{◌≡◌}
use Rattle.rows.specs.Cells.{Shaped, Built}
use Rattle.rows.proofs.rows.Given as goal

abbrev pub invariant-loop-k : goal.invariant-loop-k
invariant-loop-k l = (l.k % 4 ≡ 0) × Shaped l.spare × Shaped l.table × Built l.seats l.size l.size 0 l.k l.table
