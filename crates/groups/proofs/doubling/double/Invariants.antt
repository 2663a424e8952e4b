-- `groups::doubling::double` meets its contract. Invariant: the first m items are kept, and u of them added behind.
use Rattle.groups.proofs.DoublingLemmas.{Turned}
use Rattle.groups.proofs.doubling.double.Given as goal

abbrev pub invariant-loop-u : goal.invariant-loop-u
invariant-loop-u g l = Turned l.initial.items l.items l.m (goal.F-post g l.step) l.u
