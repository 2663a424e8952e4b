-- `Word::none` meets its contract.
use mathlib.Core.Path.{refl}
use Rattle.word.specs.Words.{word_of}
use Rattle.word.proofs.Word.none.Goals as goal

pub returns : goal.returns
unfolding word_of
returns c = refl
