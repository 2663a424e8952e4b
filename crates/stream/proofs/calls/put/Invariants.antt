-- `calls::put` ends: each turn that goes on has written at least one byte.
use Prim.Native.Nat.{◌-◌, ◌≤◌}
use lib.ListN.{length, take}
use Rattle.std.specs.Io.KnownBytes.{Appends}
use Rattle.stream.proofs.calls.put.Given as goal

abbrev pub invariant-loop-done : goal.invariant-loop-done
invariant-loop-done g l =
    (l.done ≤ length l.bytes) × Appends (g.W.Write.contents l.initial.output) (g.W.Write.contents l.output) (take l.done l.bytes)

abbrev pub decreases-loop-done : goal.decreases-loop-done
decreases-loop-done g l = length l.bytes - l.done
