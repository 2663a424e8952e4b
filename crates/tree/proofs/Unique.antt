-- No second answer: two results of decoding that meet its contract are equal.
-- The contract is that of src/ itself, as the check reads it: a weaker one has no such theorem.
use Rattle.laws.specs.Answers.OneAnswer.{OneResult, one_answer}
use Rattle.tree.specs.Unique.{answer_injective}
use Rattle.tree.proofs.decode.Reads as decode

pub decode_unique : OneResult decode.Learnt
decode_unique κs a r s v w p q = answer_injective r s (one_answer p q)
