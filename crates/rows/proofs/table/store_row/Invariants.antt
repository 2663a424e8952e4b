-- `rows::table::store_row` meets its contract: before each turn the values before i are stored.
use lib.ListN.{take}
use Rattle.rows.specs.Cells.{Placed}
use Rattle.rows.proofs.table.store_row.Given as goal

abbrev pub invariant-loop-i : goal.invariant-loop-i
invariant-loop-i l = Placed l.initial.table l.start (take l.i l.row) l.table
