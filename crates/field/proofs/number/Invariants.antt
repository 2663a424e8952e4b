-- `field::number` meets its contract. Invariant: it is the number in the first i bytes, which is small.
use Prim.Native.Nat.{◌^◌, ◌<◌}
use mathlib.Core.Path.{◌≡◌}
use Rattle.rules.specs.Record.{number_at}
use Rattle.field.proofs.number.Given as goal

abbrev pub invariant-loop-i : goal.invariant-loop-i
invariant-loop-i l = record { value : l.number ≡ number_at l.bytes l.place l.i; small : l.number < 256 ^ l.i }
