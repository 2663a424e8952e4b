-- `rows::add_slots` meets its contract: before each turn what slot t adds is gathered for the first k groups.
use mathlib.Core.Path.{◌≡◌}
use native.Mathlib.Omega.{arith}
use Rattle.laws.specs.Numbers.Bits.{power_shifted}
use Rattle.rows.proofs.LaneRows.{lanes_ready, rows_more}
use Rattle.rows.proofs.Places.{place, size_small, entries_shifted}
use Rattle.rows.proofs.add_slots.Goals as goal

pub entries-requires : goal.entries-requires
entries-requires c = omega (arith, c.requires.slots.0, size_small c.requires.slots.1)

pub overflow_mul-lanes : goal.overflow_mul-lanes
overflow_mul-lanes c =
    let g = c.requires.slots.1 in
    rw (entries_shifted g) (record { fits = omega (arith, (place g {k = c.args.group} (omega arith)).start) })

pub double-requires : goal.double-requires
double-requires c =
    let l = c.loop-k in
    let all : l.k ≡ 4 = omega arith in
    let g = c.requires.slots.1 in
    let m = power_shifted 64 c.args.t (omega (arith, c.requires.slots.0, size_small g)) in
    rw (entries_shifted g, m) (lanes_ready c.requires.slots.0 g _ c.requires.tables.1 (rw all at l.invariant.1), c.requires.tables.0)

pub returns : goal.returns
returns c =
    let l = c.loop-k in
    let all : l.k ≡ 4 = omega arith in
    let g = c.requires.slots.1 in
    let m = power_shifted 64 c.args.t (omega (arith, c.requires.slots.0, size_small g)) in
    rows_more c.requires.slots.0 g _ c.requires.tables.1 (rw all at l.invariant.1) (rw (entries_shifted g, m) at c.double.ensures)
