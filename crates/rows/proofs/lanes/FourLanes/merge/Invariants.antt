-- `rows::lanes::FourLanes::merge` meets its contract: before each turn every lane has the first t entries of its row, and the lanes
-- before k one more.
use Rattle.rows.proofs.LaneTurns.{InStep}
use Rattle.rows.proofs.lanes.FourLanes.merge.Given as goal

abbrev pub invariant-loop-t : goal.invariant-loop-t
invariant-loop-t l = InStep l.from l.self.first l.self.entries l.self.m l.self.added l.fn.to l.to l.t 0 l.taken

abbrev pub invariant-loop-k : goal.invariant-loop-k
invariant-loop-k l = InStep l.from l.self.first l.self.entries l.self.m l.self.added l.fn.to l.to l.t l.k l.a-items
