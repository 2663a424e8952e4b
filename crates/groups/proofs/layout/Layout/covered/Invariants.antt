-- `Layout::covered` meets its contract. Invariant: the groups below m are done, and m is a power of two.
use Prim.Native.Nat.{◌-◌}
use Rattle.groups.proofs.Covering.{Covering}
use Rattle.groups.proofs.layout.Layout.covered.Given as goal

abbrev pub invariant-loop-m : goal.invariant-loop-m
invariant-loop-m l = Covering l.self.tree l.covered l.m

abbrev pub decreases-loop-m : goal.decreases-loop-m
decreases-loop-m l = l.self.tree.groups - l.m
