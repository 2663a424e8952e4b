-- `Layout::changes` meets its contract. Invariant: the patterns below 2 ^ t are done.
use Rattle.groups.proofs.Changing.{Changed}
use Rattle.groups.proofs.layout.Layout.changes.Given as goal

abbrev pub invariant-loop-t : goal.invariant-loop-t
invariant-loop-t l = Changed l.self.tree l.changes l.t
