-- The iterator over a line's numbers ends: each step leaves less of the line.
use Rattle.std.proofs.Common.{length, ◌≤◌}
use Rattle.vectors.proofs.line.NumbersIterator.next.Given as goal

abbrev pub invariant-loop-self : goal.invariant-loop-self
invariant-loop-self l = length l.self.rest.now ≤ length l.initial.self.rest.now

abbrev pub decreases-loop-self : goal.decreases-loop-self
decreases-loop-self l = length l.self.rest.now
