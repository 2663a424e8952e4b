-- `rows::lanes::FourLanes::merge` meets its contract: before each turn every lane has the first t entries of its row, and the lanes
-- before k one more.
use Rattle.rows.proofs.LaneTurns.{step_more}
use Rattle.rows.proofs.lanes.FourLanes.merge.Goals as goal

pub loop-k-preserved : goal.loop-k-preserved
loop-k-preserved c = step_more c.requires.0 c.loop-t-test.true c.loop-k-test.true c.loop-k.invariant (rw c.start.ensures at c.turn.ensures)
