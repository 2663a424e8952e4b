-- `rows::lanes::mirror` meets its contract: each turn stores what is left to the sum.
use Rattle.rows.specs.Lanes.{Completed}
use Rattle.rows.proofs.lanes.mirror.Given as goal

abbrev pub invariant-loop-t : goal.invariant-loop-t
invariant-loop-t l = Completed l.initial.to l.start l.m l.both l.to l.t
