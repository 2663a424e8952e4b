-- `Walk::row` meets its contract.
use Rattle.walk.proofs.Packing.{entries_shifted, part_fits, row_taken}
use Rattle.walk.proofs.Walk.row.Goals as goal

pub part-requires : goal.part-requires
part-requires c = part_fits c.requires _ (entries_shifted c.requires)

pub returns : goal.returns
returns c = row_taken c.requires _ _ (entries_shifted c.requires) _ c.part.ensures.long c.part.ensures.same
