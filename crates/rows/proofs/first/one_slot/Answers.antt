-- `rows::first::one_slot` meets its contract.
use Rattle.rows.proofs.FirstRows.{one_row}
use Rattle.rows.proofs.first.one_slot.Goals as goal

pub returns : goal.returns
returns c = one_row _ c.slot_entries-low.ensures.in_order
