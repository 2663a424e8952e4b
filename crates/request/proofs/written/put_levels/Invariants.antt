-- `request::written::put_levels` meets its contract. Invariant: the levels of the slots before this one are put.
use Prim.Native.Nat.{◌+◌, ◌*◌}
use Rattle.word.specs.Words.{word_of}
use Rattle.text.specs.Puts.{Put}
use Rattle.request.specs.Writing.{slot_bytes}
use Rattle.request.proofs.written.put_levels.Given as goal

abbrev pub invariant-loop-slot : goal.invariant-loop-slot
invariant-loop-slot l = Put l.initial.out l.at (slot_bytes (word_of l.x) l.slots l.slot) (l.at + 2 * l.slot) l.out
