-- `Word::above` meets its contract: past the word nothing is left.
use mathlib.Core.Path.{sym}
use borrow.Author.Rules.{rules}
use Rattle.word.specs.Words.{word_of}
use Rattle.word.proofs.Shifts.{past_word}
use Rattle.word.proofs.Word.above.Goals as goal

pub returns-then-i-lt-SLOTS : goal.returns-then-i-lt-SLOTS
unfolding word_of
returns-then-i-lt-SLOTS c = search rules

pub returns-else-i-lt-SLOTS : goal.returns-else-i-lt-SLOTS
unfolding word_of
returns-else-i-lt-SLOTS c = sym (past_word c.args.self.bits c.args.i c.if-i-lt-SLOTS.false)
