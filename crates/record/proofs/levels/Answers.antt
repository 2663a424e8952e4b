-- `record::levels` meets its contract. Invariant: the levels below a slot are those of the slots.
use mathlib.Core.Path.{◌∙◌}
use native.Mathlib.Omega.{arith}
use lib.IntN.{pos}
use lib.ListN.{length-set, length-replicate}
use mir.Syntax.{w32}
use mir.ValLaws.{to_z-of_z}
use borrow.Author.Count.{below_none}
use Rattle.rules.specs.Record.{slot_level, record_slots}
use Rattle.laws.specs.Numbers.Each.{each_stored, each_all}
use Rattle.record.proofs.levels.Goals as goal

pub loop-slot-init : goal.loop-slot-init
loop-slot-init c = record { full = length-replicate record_slots (pos 0); below = below_none _ }

pub loop-slot-preserved : goal.loop-slot-preserved
loop-slot-preserved c =
    let inv = c.loop-slot.invariant in
    record {
      full = rw length-set inv.full;
      below =
          each_stored (slot_level _) (pos 0) c.loop-slot.levels _ _ (omega arith)
          (to_z-of_z w32 _ (record { sfits = c.level.type_inv }) ∙ c.level.ensures)
          inv.below;
    }

pub returns : goal.returns
returns c =
    let inv = c.loop-slot.invariant in
    each_all (slot_level _) (pos 0) _ record_slots inv.full (λ j l. inv.below j (omega arith))
