-- `tree::slot::rows` meets its contract.
use Rattle.tree.proofs.Giving.{ranked}
use Rattle.tree.proofs.slot.rows.Goals as goal

pub returns : goal.returns
returns c = ranked _ _ c.gives.ensures c.rows.ensures
