-- No second answer: two results of `read` that meet its contract are equal.
-- The contract is that of src/ itself, as the check reads it: a weaker one has no such theorem.
use Rattle.laws.specs.Answers.OneAnswer.{OneResult, one_answer}
use Rattle.record.specs.Unique.{answer_injective}
use Rattle.record.proofs.read.Reads as read

pub read_unique : OneResult read.Learnt
read_unique κs a r s v w p q = answer_injective r s (one_answer p q)
