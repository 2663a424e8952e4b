-- `listing::rule::distance` is safe: each of the 16 slots adds (limit + 256)² at the most.
use Prim.Native.Nat.{◌+◌, ◌*◌, ◌≤◌}
use Rattle.rules.specs.Level.{limit}
use Rattle.listing.proofs.rule.distance.Given as goal

abbrev pub invariant-loop-i : goal.invariant-loop-i
invariant-loop-i l = l.sum ≤ (limit + 256) * (limit + 256) * l.i
