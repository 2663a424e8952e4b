-- `text::hex` meets its contract. Invariant: the highest i digits are put.
use Prim.Native.Nat.{◌+◌, ◌-◌, ◌/◌, ◌^◌}
use Rattle.rules.specs.Text.{hex}
use Rattle.text.specs.Puts.{Put}
use Rattle.text.proofs.hex.Given as goal

abbrev pub invariant-loop-i : goal.invariant-loop-i
invariant-loop-i l = Put l.initial.out l.at (hex l.i (l.v / 16 ^ (16 - l.i))) (l.at + l.i) l.out
