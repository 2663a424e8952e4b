-- `rows::table::store_row` meets its contract: before each turn the values before i are stored.
use mathlib.Core.Path.{◌≡◌}
use native.Mathlib.Omega.{arith}
use lib.ListN.{length, take}
use Rattle.std.proofs.lemmas.List.{take_more}
use Rattle.std.proofs.Common.{length-take-le}
use Rattle.rows.proofs.Cells.{placed_more}
use Rattle.rows.proofs.table.store_row.Goals as goal

pub loop-i-preserved : goal.loop-i-preserved
loop-i-preserved c =
    let i = c.loop-i.i in
    let row = c.args.row.now in
    let room = c.requires.1 in
    let long : length (take i row) ≡ i = length-take-le i row (omega arith) in
    rw (take_more row i 0 c.loop-i-test.true, c.store.ensures) (placed_more c.loop-i.invariant long (omega (arith, room.inside, room.edge)) _)
