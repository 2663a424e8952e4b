-- `tree::slot::gives` meets its contract: what the groups so far give is in the list.
use Prim.Native.Nat.{◌^◌}
use mathlib.Core.Path.{◌≡◌}
use lib.ListN.{length}
use Rattle.rules.specs.Refusals.{largest}
use Rattle.tree.specs.Slots.{Gives}
use Rattle.tree.proofs.slot.gives.Given as goal

abbrev pub invariant-loop-k : goal.invariant-loop-k
invariant-loop-k l = Gives l.levels l.layout.index l.k l.size l.seats l.near × (length l.near ≡ 2 ^ largest)
