-- No second answer: two codewords of a word that meet the contract are equal.
-- The contract is that of src/ itself, as the check reads it: a weaker one has no such theorem.
use Rattle.laws.specs.Answers.OneAnswer.{OneResult, one_answer}
use Rattle.word.specs.Unique.{word_injective}
use Rattle.matrix.proofs.map.Reads as map

pub map_unique : OneResult map.Learnt
map_unique κs a r s v w p q = word_injective r s (one_answer p q)
