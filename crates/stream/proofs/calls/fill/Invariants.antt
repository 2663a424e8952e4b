-- `calls::fill` keeps to its bytes, and ends: each turn that goes on has read at least one.
use Prim.Native.Nat.{◌-◌, ◌≤◌}
use lib.ListN.{length, take}
use Rattle.std.specs.Io.KnownBytes.{Consumes}
use Rattle.stream.proofs.calls.fill.Given as goal

abbrev pub invariant-loop-len : goal.invariant-loop-len
invariant-loop-len g l =
    (l.len ≤ length l.bytes) × Consumes (g.R.Read.remaining l.initial.input) (g.R.Read.remaining l.input) (take l.len l.bytes)

abbrev pub decreases-loop-len : goal.decreases-loop-len
decreases-loop-len g l = length l.initial.bytes - l.len
