-- `rows::lanes::FourLanes::double` meets its contract: before each turn the first k lanes are whole.
use Rattle.rows.proofs.LaneMirrors.{mirroring_more}
use Rattle.rows.proofs.lanes.FourLanes.double.Goals as goal

pub loop-k-preserved : goal.loop-k-preserved
loop-k-preserved c =
    mirroring_more c.requires.0 c.loop-k-test.true c.loop-k.invariant (rw (c.entry-in-loop-k.ensures, c.entry.ensures, c.start-start.ensures) at c.mirror.ensures)
