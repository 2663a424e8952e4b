-- `Word::reaches` meets its contract: past the word no index has a one.
use mathlib.Core.Path.{sym, ◌∙◌}
use Prim.Native.Nat.{◌^◌}
use native.Mathlib.Omega.{arith}
use lib.Pow.{pow_mono}
use borrow.Author.Tests.{lt-leb, le-ltb}
use Rattle.word.specs.Words.{word_of}
use Rattle.word.proofs.Shifts.{one_shifted}
use Rattle.word.proofs.Word.reaches.Goals as goal

pub returns-then-i-lt-SLOTS : goal.returns-then-i-lt-SLOTS
unfolding word_of
returns-then-i-lt-SLOTS c = rw (one_shifted _ c.if-i-lt-SLOTS.true)

pub returns-else-i-lt-SLOTS : goal.returns-else-i-lt-SLOTS
unfolding word_of
returns-else-i-lt-SLOTS c =
    le-ltb _ _ c.if-i-lt-SLOTS.false ∙ sym (lt-leb (2 ^ c.args.i) c.args.self.bits (omega (arith, pow_mono {i = 64} c.if-i-lt-SLOTS.false)))
