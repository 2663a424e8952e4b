-- `record::levels` meets its contract. Invariant: the levels below a slot are those of the slots.
use Prim.Native.Nat.{ℕ, ◌<◌}
use mathlib.Core.Path.{◌≡◌}
use lib.IntN.{pos}
use lib.ListN.{length, get_or}
use Rattle.rules.specs.Record.{slot_level, record_slots}
use Rattle.record.proofs.levels.Given as goal

abbrev pub invariant-loop-slot : goal.invariant-loop-slot
invariant-loop-slot l = record {
  full : length l.levels ≡ record_slots;
  below : (k : ℕ) → k < l.slot → get_or l.levels k (pos 0) ≡ slot_level l.bytes k;
}
