-- `tree::empty::first_empty` meets its contract. Invariant: no level before this one is empty.
use Rattle.tree.proofs.deciding.Emptiness.{Passed}
use Rattle.tree.proofs.empty.first_empty.Given as goal

abbrev pub invariant-loop-level : goal.invariant-loop-level
invariant-loop-level l = Passed l.shut l.tree l.level
