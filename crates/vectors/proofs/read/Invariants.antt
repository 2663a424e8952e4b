-- `vectors::read` keeps to its buffer, and ends: each turn that goes on has read at least one byte.
use Rattle.std.proofs.Common.{◌-◌, ◌≤◌, length}
use Rattle.vectors.proofs.read.Given as goal

abbrev pub invariant-loop-more : goal.invariant-loop-more
invariant-loop-more g l = l.len ≤ length l.text

abbrev pub decreases-loop-more : goal.decreases-loop-more
decreases-loop-more g l = length l.text - l.len
