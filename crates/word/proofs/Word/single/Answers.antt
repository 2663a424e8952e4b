-- `Word::single` meets its contract: past the word nothing is left.
use mathlib.Core.Path.{sym, ap, ◌∙◌}
use Prim.Native.Nat.{ℕ, ◌%◌, ◌^◌}
use native.Mathlib.Nat.{one-mul}
use Rattle.word.specs.Words.{word_of}
use Rattle.word.proofs.Shifts.{past_word}
use Rattle.word.proofs.Word.single.Goals as goal

pub returns-then-i-lt-SLOTS : goal.returns-then-i-lt-SLOTS
unfolding word_of
returns-then-i-lt-SLOTS c = ap (λ (x : ℕ). x % 2 ^ 64) (one-mul (2 ^ c.args.i))

pub returns-else-i-lt-SLOTS : goal.returns-else-i-lt-SLOTS
unfolding word_of
returns-else-i-lt-SLOTS c =
    sym (ap (λ (x : ℕ). x % 2 ^ 64) (sym (one-mul (2 ^ c.args.i))) ∙ past_word 1 c.args.i c.if-i-lt-SLOTS.false)
