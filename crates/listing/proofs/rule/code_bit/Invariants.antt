-- `listing::rule::code_bit` ends: the sum of bits is no larger than their number.
use Prim.Native.Nat.{◌≤◌}
use Rattle.listing.proofs.rule.code_bit.Given as goal

abbrev pub invariant-loop-j : goal.invariant-loop-j
invariant-loop-j l = l.sum ≤ l.j
