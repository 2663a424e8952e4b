-- `Word::slot_bits` meets its contract.
use Prim.Native.Nat.{◌^◌}
use mathlib.Core.Path.{◌≡◌, sym}
use native.Mathlib.Nat.{mod-eq_of_lt}
use native.Mathlib.Omega.{arith}
use lib.Pow.{pow_pos}
use Rattle.word.specs.Words.{word_of, size_of}
use Rattle.word.proofs.Shifts.{one_shifted, slots_le}
use Rattle.word.proofs.Word.slot_bits.Goals as goal

pub nonzero_rem-result : goal.nonzero_rem-result
nonzero_rem-result c = rw (one_shifted _ c.if-slots-lt-SLOTS.true) (pow_pos _)

pub returns-then-slots-lt-SLOTS : goal.returns-then-slots-lt-SLOTS
unfolding word_of
returns-then-slots-lt-SLOTS c = rw (one_shifted _ c.if-slots-lt-SLOTS.true, c.slots-slots.ensures)

pub returns-else-slots-lt-SLOTS : goal.returns-else-slots-lt-SLOTS
unfolding word_of
returns-else-slots-lt-SLOTS c =
    let n = c.args.n in
    let whole : 64 ≡ 2 ^ size_of n = omega (arith, slots_le n, c.slots-slots.ensures) in
    sym (rw (← whole) (mod-eq_of_lt (omega arith)))
