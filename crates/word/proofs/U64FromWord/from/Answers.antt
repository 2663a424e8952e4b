-- The number of a word meets its contract.
use borrow.Author.Rules.{rules}
use Rattle.word.specs.Words.{word_of}
use Rattle.word.proofs.U64FromWord.from.Goals as goal

pub returns : goal.returns
unfolding word_of
returns c = search rules
