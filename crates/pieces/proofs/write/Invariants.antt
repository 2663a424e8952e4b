-- `pieces::write` meets its contract. Invariant: what is written for the records that came off is put, in both buffers.
use mathlib.Core.Path.{◌≡◌}
use Rattle.rules.specs.Text.{most_records}
use Rattle.pieces.specs.Programs.{size_of}
use Rattle.pieces.proofs.Passed.{Passed}
use Rattle.pieces.proofs.write.Given as goal

abbrev pub invariant-loop-record : goal.invariant-loop-record
invariant-loop-record l =
    (l.record-iterator.a.size ≡ size_of l.program) × (l.record-iterator.b.end ≡ most_records)
    × Passed l.program l.bytes l.number l.initial.out l.initial.said l.record-iterator.a.rest.now l.ends l.record-iterator.b.start l.out l.said
