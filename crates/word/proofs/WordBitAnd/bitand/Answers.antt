-- `Word::bitand` meets its contract.
use borrow.Author.Rules.{rules}
use Rattle.word.specs.Words.{word_of}
use Rattle.word.proofs.WordBitAnd.bitand.Goals as goal

pub returns : goal.returns
unfolding word_of
returns c = search rules
