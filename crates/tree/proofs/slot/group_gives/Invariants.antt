-- `tree::slot::group_gives` meets its contract: what the slots so far give is in the list.
use Rattle.tree.specs.Slots.{GroupGives}
use Rattle.tree.proofs.slot.group_gives.Given as goal

abbrev pub invariant-loop-t : goal.invariant-loop-t
invariant-loop-t l = GroupGives l.levels l.index l.first l.initial.seats l.t l.seats l.near
