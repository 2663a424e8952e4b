-- `rows::lanes::mirror` meets its contract: each turn stores what is left to the sum.
use native.Mathlib.Omega.{arith}
use Rattle.rows.proofs.LaneMirrors.{completed_more}
use Rattle.rows.proofs.lanes.mirror.Goals as goal

pub loop-t-preserved : goal.loop-t-preserved
loop-t-preserved c =
    let room = c.requires.room.1 in
    rw (c.store.ensures, c.entry.ensures) (completed_more c.loop-t.invariant c.loop-t-test.true (omega (arith, room.inside, room.edge)))
