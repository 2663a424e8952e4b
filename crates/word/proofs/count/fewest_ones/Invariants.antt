-- `word::count::fewest_ones` meets its contract. Invariant: what was found is the fewest ones below i.
use mathlib.Core.Path.{◌≡◌}
use lib.Count.{ones}
use Rattle.rules.specs.Below.{least_below}
use Rattle.rules.specs.Word.{unfrozen}
use Rattle.word.specs.Words.{word_of}
use Rattle.word.specs.Options.{option_of}
use Rattle.word.proofs.count.fewest_ones.Given as goal

abbrev pub invariant-loop-i : goal.invariant-loop-i
invariant-loop-i l = option_of l.found ≡ least_below l.i (unfrozen (word_of l.frozen)) ones
