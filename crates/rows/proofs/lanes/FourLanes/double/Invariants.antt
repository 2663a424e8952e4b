-- `rows::lanes::FourLanes::double` meets its contract: before each turn the first k lanes are whole.
use Rattle.rows.proofs.LaneMirrors.{Mirroring}
use Rattle.rows.proofs.lanes.FourLanes.double.Given as goal

abbrev pub invariant-loop-k : goal.invariant-loop-k
invariant-loop-k l = Mirroring l.from l.self.first l.self.entries l.self.m l.self.added l.initial.to l.to l.k
