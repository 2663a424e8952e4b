-- `Word::copies` meets its contract: copies of words with ones in disjoint index bits fit.
use native.Mathlib.Omega.{arith}
use borrow.Author.Rules.{rules}
use Rattle.rules.specs.Refusals.{largest}
use Rattle.laws.specs.Code.Disjoint.{copies_fit}
use Rattle.word.specs.Words.{word_of}
use Rattle.word.proofs.Word.copies.Goals as goal

pub overflow_mul-result : goal.overflow_mul-result
unfolding word_of
overflow_mul-result c = omega (arith, copies_fit largest c.args.self.bits c.args.b.bits c.requires)

pub returns : goal.returns
unfolding word_of
returns c = search rules
