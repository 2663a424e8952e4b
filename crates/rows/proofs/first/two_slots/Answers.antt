-- `rows::first::two_slots` meets its contract.
use Rattle.rows.proofs.FirstRows.{two_row}
use Rattle.rows.proofs.first.two_slots.Goals as goal

pub returns : goal.returns
returns c =
    rw (c.in_order-left.ensures.0, c.in_order-left.ensures.1) (two_row _ c.slot_entries-low.ensures.in_order c.slot_entries-next_low.ensures.in_order)
