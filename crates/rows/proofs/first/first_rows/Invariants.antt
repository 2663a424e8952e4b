-- `rows::first::first_rows` meets its contract: before each turn the groups before k have their rows.
use Prim.Native.Nat.{min}
use Rattle.rows.specs.Cells.{Filled}
use Rattle.rows.proofs.first.first_rows.Given as goal

abbrev pub invariant-loop-k : goal.invariant-loop-k
invariant-loop-k l = Filled l.seats l.size (min l.size 2) l.group l.k l.initial.table l.table
