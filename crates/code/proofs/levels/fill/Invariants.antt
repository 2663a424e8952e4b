-- `code::levels::fill` meets its contract. Invariant: each slot below i has the ideal level of its bit.
use Rattle.std.specs.Prelude.{ℕ, ◌<◌, ◌≡◌, pos, get_or}
use Rattle.rules.specs.Word.{bit}
use Rattle.rules.specs.Level as rules
use Rattle.word.specs.Words.{word_of}
use Rattle.code.proofs.levels.fill.Given as goal

abbrev pub invariant-loop-i : goal.invariant-loop-i
invariant-loop-i l = (j : ℕ) → j < l.i → get_or l.levels j (pos 0) ≡ rules.ideal (bit (word_of l.x) j)
