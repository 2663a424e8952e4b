-- `rows::first::first_rows` meets its contract: before each turn the groups before k have their rows.
use native.Mathlib.Omega.{arith}
use Rattle.rows.proofs.Filling.{place_room, filled_more}
use Rattle.rows.proofs.Places.{place, size_small, entries_shifted}
use Rattle.rows.proofs.first.first_rows.Goals as goal

pub overflow_shl-entries : goal.overflow_shl-entries
overflow_shl-entries c = omega (arith, size_small c.requires.1)

pub overflow_mul-k : goal.overflow_mul-k
overflow_mul-k c =
    let g = c.requires.1 in
    rw (entries_shifted g) (record { fits = omega (arith, (place g c.loop-k-test.true).start) })

pub first_row-requires-clause-room : goal.first_row-requires-clause-room
first_row-requires-clause-room c =
    let g = c.requires.1 in
    rw (entries_shifted g) (c.loop-k.invariant.shaped, place_room g c.loop-k-test.true (omega arith))

pub loop-k-preserved : goal.loop-k-preserved
loop-k-preserved c =
    let l = c.loop-k in
    filled_more l.invariant (omega arith) (omega arith) (rw (entries_shifted c.requires.1) at c.first_row.ensures)
