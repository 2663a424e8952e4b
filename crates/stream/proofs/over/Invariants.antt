-- `stream::over` ends: each turn that goes on has a larger record number, and there is a largest. What was read and written before
-- a turn is what the rules say of so many records.
use Prim.Native.Nat.{◌-◌, ◌≤◌}
use Rattle.rules.specs.Text.{most_records}
use Rattle.pieces.specs.Programs.{size_of, size-some, shown_of}
use Rattle.stream.proofs.Turns.{Turned}
use Rattle.stream.proofs.over.Given as goal

abbrev pub invariant-loop-next : goal.invariant-loop-next
invariant-loop-next g l =
    (l.number ≤ most_records)
    × Turned (size_of l.program) (size-some l.program) (shown_of l.program) (g.R.Read.remaining l.initial.streams.input)
    (g.W.Write.contents l.initial.streams.output) l.number (g.R.Read.remaining l.streams.input) (g.W.Write.contents l.streams.output)

abbrev pub decreases-loop-next : goal.decreases-loop-next
decreases-loop-next g l = most_records - l.number
