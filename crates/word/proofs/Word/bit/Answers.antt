-- `Word::bit` meets its contract: past the word every bit is 0.
use mathlib.Core.Path.{sym}
use native.Mathlib.Omega.{arith}
use borrow.Author.Rules.{rules}
use Rattle.laws.specs.Numbers.Bits.{bit_beyond}
use Rattle.word.specs.Words.{word_of}
use Rattle.word.proofs.Word.bit.Goals as goal

pub returns-then-i-lt-SLOTS : goal.returns-then-i-lt-SLOTS
unfolding word_of
returns-then-i-lt-SLOTS c = search rules

pub returns-else-i-lt-SLOTS : goal.returns-else-i-lt-SLOTS
unfolding word_of
returns-else-i-lt-SLOTS c = sym (bit_beyond {k = 64} (omega arith) (omega arith))
